use Rattle.std.proofs.Common.{◌≡◌, ◌++◌, List, ◌<◌, length, take, drop, refl, ap, sym, subst, ◌∙◌, rules}
use Rattle.std.proofs.lemmas.List.{take_rest}
use Rattle.doc_types.specs.Snapshots.{AreLayers, LayerValue, SnapshotValue, all_living}
use Rattle.layer_joins.specs.Joins.{MayMerge}
use Rattle.layer_joins.specs.Joins.{AreApart}
use Rattle.layer_joins.specs.steps.Layering.{AreInMemory, IsMerged, option_list}
use Rattle.layer_joins.proofs.Ids.{apart_back}
use Rattle.layer_joins.proofs.Limits.{layers_merged, of_back}
use Rattle.layer_joins.proofs.Livings.{all_living_split}
use Rattle.layer_joins.proofs.Upkeep.{joined_by}
use Rattle.layer_joins.proofs.merging.merge_from.Goals as goal

pub merged-requires-clause-of : goal.merged-requires-clause-of
merged-requires-clause-of g c =
    let same : c.as_slice.result.now ≡ c.args.snapshot.now.layers = c.as_slice.ensures ∙ ap (λ (snapshot : SnapshotValue). snapshot.layers) c.snapshot.view_is in
    rw (same, take_rest) (of_back c.args.snapshot.now.layers c.args.start c.requires.of)

pub merged-requires-clause-apart : goal.merged-requires-clause-apart
merged-requires-clause-apart g c =
    rw (c.as_slice.ensures, take_rest) (apart_back _ _ (subst AreApart (all_living_split c.snapshot.inside.layers c.args.start) c.snapshot.invariant.distinct))

pub invariant_of-snapshot : goal.invariant_of-snapshot
invariant_of-snapshot g c =
    let within : c.args.start < length c.snapshot.inside.layers = subst (λ (snapshot : SnapshotValue). c.args.start < length snapshot.layers) (sym c.snapshot.view_is) c.requires.start in
    let memory : AreInMemory c.args.start c.snapshot.inside.layers = subst (λ (snapshot : SnapshotValue). AreInMemory c.args.start snapshot.layers) (sym c.snapshot.view_is) c.requires.memory in
    let moved : c.into_vec-layers.result.items ≡ c.snapshot.inside.layers = search rules in
    let layers : c.new-3.result ≡ take c.args.start c.snapshot.inside.layers ++ option_list c.in_ok-layer.layer = c.new-3.ensures ∙ c.replace_from.ensures ∙ ap (λ (ls : List LayerValue). take c.args.start ls ++ option_list c.in_ok-layer.layer) moved in
    let merged : IsMerged (all_living (drop c.args.start c.snapshot.inside.layers)) c.in_ok-layer.layer = rw (c.as_slice.ensures, take_rest) at c.in_ok-layer.ensures in
    subst AreLayers (sym layers) (layers_merged c.snapshot.inside.layers c.args.start c.in_ok-layer.layer c.snapshot.invariant memory merged within)

pub returns-clause-ok : goal.returns-clause-ok
returns-clause-ok g c =
    let within : c.args.start < length c.snapshot.inside.layers = subst (λ (snapshot : SnapshotValue). c.args.start < length snapshot.layers) (sym c.snapshot.view_is) c.requires.start in
    let memory : AreInMemory c.args.start c.snapshot.inside.layers = subst (λ (snapshot : SnapshotValue). AreInMemory c.args.start snapshot.layers) (sym c.snapshot.view_is) c.requires.memory in
    let moved : c.into_vec-layers.result.items ≡ c.snapshot.inside.layers = search rules in
    let layers : c.new-3.result ≡ take c.args.start c.snapshot.inside.layers ++ option_list c.in_ok-layer.layer = c.new-3.ensures ∙ c.replace_from.ensures ∙ ap (λ (ls : List LayerValue). take c.args.start ls ++ option_list c.in_ok-layer.layer) moved in
    let merged : IsMerged (all_living (drop c.args.start c.snapshot.inside.layers)) c.in_ok-layer.layer = rw (c.as_slice.ensures, take_rest) at c.in_ok-layer.ensures in
    subst (λ (snapshot : SnapshotValue). MayMerge snapshot (record { number = c.snapshot.inside.number; shape = c.snapshot.inside.shape; layers = c.new-3.result })) c.snapshot.view_is
    (record { number = refl; shape = refl; joins = joined_by c.snapshot.inside.layers c.args.start c.in_ok-layer.layer c.new-3.result memory merged layers })

pub returns-clause-sound : goal.returns-clause-sound
returns-clause-sound g c =
    let within : c.args.start < length c.snapshot.inside.layers = subst (λ (snapshot : SnapshotValue). c.args.start < length snapshot.layers) (sym c.snapshot.view_is) c.requires.start in
    let memory : AreInMemory c.args.start c.snapshot.inside.layers = subst (λ (snapshot : SnapshotValue). AreInMemory c.args.start snapshot.layers) (sym c.snapshot.view_is) c.requires.memory in
    let moved : c.into_vec-layers.result.items ≡ c.snapshot.inside.layers = search rules in
    let layers : c.new-3.result ≡ take c.args.start c.snapshot.inside.layers ++ option_list c.in_ok-layer.layer = c.new-3.ensures ∙ c.replace_from.ensures ∙ ap (λ (ls : List LayerValue). take c.args.start ls ++ option_list c.in_ok-layer.layer) moved in
    let merged : IsMerged (all_living (drop c.args.start c.snapshot.inside.layers)) c.in_ok-layer.layer = rw (c.as_slice.ensures, take_rest) at c.in_ok-layer.ensures in
    subst AreLayers (sym layers) (layers_merged c.snapshot.inside.layers c.args.start c.in_ok-layer.layer c.snapshot.invariant memory merged within)
