use Rattle.std.proofs.Common.{List, sym, rules}
use Rattle.std.specs.List.{flat_map}
use Rattle.image_join.specs.steps.Entries.{entries_in}
use Rattle.image_join.specs.steps.Parts.{PartValue}
use Rattle.image_join.specs.steps.Stacking.{stacked_in}
use Rattle.image_join.proofs.InOrder.{all_entries, tables_for}
use Rattle.image_join.proofs.words.go_over.Goals as goal

pub returns-then-in_order-clause-tables : goal.returns-then-in_order-clause-tables
returns-then-in_order-clause-tables g c = λ last stand least rows words was are.
    let parts : List PartValue = c.args.parts.now in
    let word = c.args.least.word.now in
    let same = all_entries word c.args.numbers.now parts (c.requires.order (search rules)) c.requires.within in
    tables_for rows words word (flat_map (stacked_in word) parts) (flat_map (entries_in word c.args.numbers.now) parts) c.args.tables.now c.stack_word.new.tables (sym same) was are (c.in_ok-stack_word.ensures.tables last stand least rows words)
