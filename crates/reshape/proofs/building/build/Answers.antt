use Rattle.std.proofs.Common.{◌<◌, ◌^◌, List, length, sym, subst, ◌∙◌}
use Rattle.doc_types.specs.Snapshots.{LayerValue, all_living}
use Rattle.layer_joins.specs.Joins.{AreApart, AreOfOne}
use Rattle.reshape.proofs.Taking.{taken_of}
use Rattle.reshape.proofs.building.build.Goals as goal

pub image_of-requires-clause-few : goal.image_of-requires-clause-few
image_of-requires-clause-few g c = subst (λ (ls : List LayerValue). length ls < 2 ^ 16) (sym c.as_slice.ensures.value) c.in_ok-layers.ensures.few

pub image_of-requires-clause-of : goal.image_of-requires-clause-of
image_of-requires-clause-of g c =
    subst (λ (ls : List LayerValue). AreOfOne (all_living ls)) (sym (c.as_slice.ensures.value ∙ c.in_ok-layers.ensures.layers)) (taken_of c.args.job c.args.snapshot.now c.requires.of)

pub image_of-requires-clause-apart : goal.image_of-requires-clause-apart
image_of-requires-clause-apart g c = subst (λ (ls : List LayerValue). AreApart (all_living ls)) (sym c.as_slice.ensures.value) c.in_ok-layers.ensures.apart
