use Rattle.std.proofs.Common.{arith, rules, ◌≡◌, false, true, refl}
use Rattle.std.specs.Str.{is_utf8}
use Rattle.image_words.proofs.Ordered.{cut_short, not_text, word_found}
use Rattle.image_words.proofs.order.word_behind.Goals as goal

pub returns-then-bytes-at : goal.returns-then-bytes-at
returns-then-bytes-at c = cut_short c.args.bytes.now c.args.at c.args.before.now (omega arith)

pub returns-then-not-is_text : goal.returns-then-not-is_text
returns-then-not-is_text c =
    let not : is_utf8 c.part_of-word.result.now ≡ false = search rules in
    not_text c.args.bytes.now c.args.at c.args.before.now c.part_of-word.result.now c.part_of-word.ensures not

pub returns-in-Less : goal.returns-in-Less
returns-in-Less c =
    let is : is_utf8 c.part_of-word.result.now ≡ true = search rules in
    word_found c.args.bytes.now c.args.at _ c.args.before.now c.part_of-word.result.now (omega arith) refl (omega arith) (omega arith) (omega arith) c.part_of-word.ensures is (search rules)
