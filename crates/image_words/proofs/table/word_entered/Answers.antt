use Rattle.std.proofs.Common.{arith, rules, subst, ℕ, refl, ◌≡◌, ◌*◌, ◌+◌, ◌≤◌, IfSome}
use Rattle.chunk_damage.specs.WordTable.{row_count}
use Rattle.chunk_damage.specs.Header.{four_in}
use Rattle.image_words.proofs.TableReading.{word_cut, word_there}
use Rattle.image_words.proofs.table.word_entered.Goals as goal

pub returns-then-dictionary-at : goal.returns-then-dictionary-at
returns-then-dictionary-at c = word_cut c.args.table.now c.args.dictionary.now c.args.rows c.args.word c.args.at c.args.list (omega arith)

pub returns : goal.returns
returns c =
    let place : four_in c.args.table.now (12 * c.args.word) ≡ c.args.at = search rules in
    let some : 1 ≤ row_count c.args.table.now c.args.word = search rules in
    let many : row_count c.args.table.now c.args.word ≤ c.args.rows = search rules in
    let told : IfSome c.args.list (λ place. four_in c.args.table.now (12 * c.args.word + 8) ≡ place) = subst (λ (k : ℕ). IfSome c.args.list (λ place. k ≡ place)) c.u32_in-told.ensures c.if-not-is_told.ensures in
    word_there c.args.table.now c.args.dictionary.now c.args.rows c.args.word c.args.at _ c.args.list (omega arith) refl ((c.type_inv.dictionary c.args.at).fits) (omega arith) place some many told
