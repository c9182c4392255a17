use Rattle.doc_types.specs.Snapshots.{AreLayers, all_living}
use Rattle.layer_joins.specs.Joins.{AreOfOne, MayMerge}
use Rattle.layer_joins.proofs.merging.merge_last.Given as goal

abbrev pub invariant-loop : goal.invariant-loop
invariant-loop g l = record {
  merged : MayMerge l.fn.snapshot l.snapshot;
  of : AreOfOne (all_living l.snapshot.layers);
  sound : AreLayers l.snapshot.layers;
}
