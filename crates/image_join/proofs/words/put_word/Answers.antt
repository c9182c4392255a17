use Rattle.std.proofs.Common.{◌≡◌, ◌+◌, ◌<◌, ◌++◌, ◌∷◌, [], ℕ, List, length, refl, rules, sym, ◌∙◌, arith}
use Rattle.std.specs.Borrow.{Bor}
use Rattle.std.proofs.lemmas.List.{length-map}
use Rattle.image_join.specs.steps.Entries.{Rising, lent, spelled_list}
use Rattle.image_join.proofs.Lengths.{placed}
use Rattle.image_join.proofs.Tabled.{word_put}
use Rattle.image_join.proofs.words.put_word.Goals as goal

pub returns : goal.returns
returns c = λ rows words was are.
    let old = c.args.tables.now in
    let found = lent c.args.found.now.items in
    let entries = lent c.put_in_order.new.found.items in
    let word = c.args.word.now in
    let size : length found ≡ length c.args.found.now.items = length-map c.args.found.now.items (λ (entry : ℕ × Bor (List ℕ)). (entry.0, entry.1.now)) in
    let some : 0 < length c.args.found.now.items = search rules in
    let place = length old.dictionary.items in
    let list = length old.postings.items in
    let tabled = c.in_ok-put_entry.ensures ∙ placed old.table.items c.low_place-place.result c.low_place-list.result place list c.in_ok-rows.rows c.low_place-place.ensures c.low_place-list.ensures in
    let count : c.in_ok-rows.rows ≡ length c.args.found.now.items = search rules in
    let counted : c.push.new.self.items ≡ old.dictionary.items ++ length word ∷ [] = search rules in
    let spelled : c.extend_from_slice.new.self.items ≡ c.push.new.self.items ++ word = search rules in
    let posted : c.put_list.new.out.items ≡ old.postings.items ++ spelled_list 0 entries = search rules in
    let rising : Rising 0 entries = search rules in
    let next : c.in_ok-tables.field-0 ≡ old.words + 1 = search rules in
    let its = word_put rows words word found entries old place list c.in_ok-rows.rows c.in_ok-tables.field-0 c.put_entry.new.out.items c.push.new.self.items c.extend_from_slice.new.self.items c.put_list.new.out.items
    (omega (arith, some, size)) was are c.put_in_order.ensures rising refl refl (count ∙ sym size) tabled counted spelled posted next in
    record { count = its.count_is; table = its.table_is; dictionary = its.dictionary_is; postings = its.postings_is }
