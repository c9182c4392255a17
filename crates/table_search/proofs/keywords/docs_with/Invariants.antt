use Rattle.std.proofs.Common.{◌≡◌, take}
use Rattle.doc_types.specs.Snapshots.{all_living}
use Rattle.table_search.specs.steps.Counting.{docs_with}
use Rattle.table_search.proofs.keywords.docs_with.Given as goal

abbrev pub invariant-loop-layer : goal.invariant-loop-layer
invariant-loop-layer g l = l.docs ≡ docs_with l.word (all_living (take l.layer-index l.layers))
