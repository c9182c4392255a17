use Rattle.std.proofs.Common.{◌≡◌, take}
use Rattle.std.specs.List.{count_by}
use Rattle.doc_types.specs.Snapshots.{all_living}
use Rattle.table_search.specs.steps.Counting.{has_some}
use Rattle.table_search.proofs.prefix_docs.count_docs.Given as goal

abbrev pub invariant-loop-layer : goal.invariant-loop-layer
invariant-loop-layer g l = l.docs ≡ count_by (has_some l.words) (all_living (take l.layer-index l.layers))
