use Rattle.std.proofs.Common.{◌≡◌, take, length}
use Rattle.std.specs.List.{flat_map}
use Rattle.doc_types.specs.Snapshots.{all_living}
use Rattle.image_join.specs.steps.Parts.{AreLaid, all_rows, living_of}
use Rattle.image_join.proofs.parts.parts_of.Given as goal

abbrev pub invariant-loop-layer : goal.invariant-loop-layer
invariant-loop-layer g l = record {
  living : flat_map living_of l.parts.items ≡ all_living (take l.layer-index l.layers);
  laid : AreLaid 0 l.parts.items;
  count : l.first ≡ length (all_rows l.parts.items);
}
