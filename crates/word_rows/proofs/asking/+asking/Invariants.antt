use Rattle.std.proofs.Common.{◌≡◌, take}
use Rattle.std.specs.List.{list_any}
use Rattle.query_tree.specs.declared.query.Item.{Item}
use Rattle.word_rows.specs.RowMarks.{asks_boundaries, asks_spans}
use Rattle.word_rows.proofs.asking.+asking.Given as goal

abbrev pub invariant-of_items-loop-item : goal.invariant-of_items-loop-item
invariant-of_items-loop-item l = record {
  boundaries : l.all.boundaries ≡ list_any (λ (item : Item). asks_boundaries item.node) (take l.item-index l.items);
  spans : l.all.spans ≡ list_any (λ (item : Item). asks_spans item.node) (take l.item-index l.items);
}
