use Rattle.std.proofs.Common.{◌≡◌, ◌+◌, ◌<◌, ◌++◌, ◌∷◌, [], List, length, refl, rules, ◌∙◌, arith}
use Rattle.std.specs.List.{flat_map}
use Rattle.std.proofs.lemmas.List.Sorted.{IsPermutation-refl}
use Rattle.image_join.specs.steps.Entries.{Entry}
use Rattle.image_join.specs.steps.Stacking.{ArePosted, at_front, stacked_in}
use Rattle.image_join.proofs.Lengths.{placed}
use Rattle.image_join.proofs.Tabled.{word_put}
use Rattle.image_join.proofs.stacking.stack_word.Goals as goal

pub returns-clause-tables : goal.returns-clause-tables
returns-clause-tables g c = λ last stand least rows words was are.
    let old = c.args.tables.now in
    let word = c.args.word.now in
    let entries : List Entry = flat_map (stacked_in word) c.args.parts.now in
    let posted : ArePosted entries old.postings.items c.stack_lists.new.out.items at_front c.in_ok-reached.reached = c.in_ok-reached.ensures.posted last stand least in
    let many : c.in_ok-reached.reached.count ≡ length entries = posted.count ∙ omega arith in
    let some : 0 < c.in_ok-reached.reached.count = search rules in
    let place = length old.dictionary.items in
    let list = length old.postings.items in
    let tabled = c.in_ok-put_entry.ensures ∙ placed old.table.items c.low_place-place.result c.low_place-list.result place list c.in_ok-reached.reached.count c.low_place-place.ensures c.low_place-list.ensures in
    let counted : c.push.new.self.items ≡ old.dictionary.items ++ length word ∷ [] = search rules in
    let spelled : c.extend_from_slice.new.self.items ≡ c.push.new.self.items ++ word = search rules in
    let next : c.in_ok-tables.field-0 ≡ old.words + 1 = search rules in
    let its = word_put rows words word entries entries old place list c.in_ok-reached.reached.count c.in_ok-tables.field-0 c.put_entry.new.out.items c.push.new.self.items c.extend_from_slice.new.self.items c.stack_lists.new.out.items
    (omega (arith, some, many)) was are (IsPermutation-refl entries) posted.rising refl refl many tabled counted spelled posted.bytes next in
    record { count = its.count_is; table = its.table_is; dictionary = its.dictionary_is; postings = its.postings_is }
