use Rattle.std.proofs.Common.{◌≡◌, ◌+◌, ◌∙◌, arith, length, length-append, refl, rules, ap, ◌∷◌, []}
use Rattle.bit_lists.specs.BitLists.{bits_of}
use Rattle.image_marks.proofs.RowLaying.{empty_laid}
use Rattle.image_marks.proofs.placing.lay_empty.Goals as goal

pub returns : goal.returns
returns c =
    let begun = c.in_ok-begin_row.ensures in
    let bits = bits_of c.args.cover.now.taken in
    let grown = bits_of c.begin_row.new.cover.taken in
    let long : length grown ≡ length bits + 1 = ap length begun.1 ∙ length-append bits (1 ∷ []) in
    let own : c.len-own.result ≡ length bits = search rules in
    let field : c.len-own.result + 1 ≡ length grown = omega (arith, own, long) in
    empty_laid c.args.fields (c.len-own.result + 1) c.args.starts.now.items bits c.begin_row.new.starts.items grown c.push_all.new.starts.items grown c.args.cover.now.least c.begin_row.new.cover.least field begun.0 begun.1 begun.2 c.in_ok-push_all.ensures refl
