use Rattle.std.proofs.Common.{◌≡◌, List, [], ◌∷◌, ◌∙◌, rules, sym, subst}
use Rattle.doc_types.specs.Snapshots.{LayerValue, IsLayer, AreLayers}
use Rattle.doc_vectors.proofs.Layers.{two_layers, without_rows, none_dead, three_dead}
use Rattle.doc_vectors.proofs.snapshots.the_snapshot.Goals as goal

pub layer-requires : goal.layer-requires
layer-requires c = record { ascend = three_dead.0; below = three_dead.1 }

pub layer-requires-2 : goal.layer-requires-2
layer-requires-2 c = record { ascend = (none_dead 0).0; below = (none_dead 0).1 }

pub invariant_of-result : goal.invariant_of-result
invariant_of-result c =
    let both : c.in_ok-layers.layers.items ≡ c.in_ok-full.full ∷ c.in_ok-empty.empty ∷ [] = search rules in
    subst AreLayers (sym (c.new.ensures ∙ both))
    (two_layers c.in_ok-full.full c.in_ok-empty.empty c.in_ok-full.ensures.is c.in_ok-empty.ensures.is (without_rows c.in_ok-empty.empty.rows c.in_ok-empty.ensures.long))
