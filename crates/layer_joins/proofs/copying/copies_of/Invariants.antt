use Rattle.std.proofs.Common.{◌≡◌, take}
use Rattle.doc_types.specs.Snapshots.{all_living}
use Rattle.layer_joins.proofs.copying.copies_of.Given as goal

abbrev pub invariant-loop-layer : goal.invariant-loop-layer
invariant-loop-layer l = l.rows.items ≡ all_living (take l.layer-index l.layers)
