use Rattle.std.proofs.Common.{◌≡◌, ◌∙◌, List, ap, arith, length, subst, sym}
use Rattle.std.specs.List.{filter}
use Rattle.doc_types.specs.Snapshots.{LayerValue, SnapshotValue, all_living}
use Rattle.layer_joins.specs.Joins.{AreApart}
use Rattle.reshape_laws.proofs.Jobs.{taken_apart}
use Rattle.reshape.specs.steps.Moving.{takes}
use Rattle.reshape.proofs.Taking.{taken_is, taken_short}
use Rattle.reshape.proofs.planning.plan.Goals as goal

pub returns-clause-layers : goal.returns-clause-layers
returns-clause-layers g c =
    let same : c.as_slice.result.now ≡ c.args.snapshot.now.layers = c.as_slice.ensures ∙ ap (λ (s : SnapshotValue). s.layers) c.snapshot.view_is in
    c.in_ok-layers.ensures ∙ ap (λ (ls : List LayerValue). filter (takes c.args.job) ls) same ∙ taken_is c.args.job c.args.snapshot.now

pub returns-clause-few : goal.returns-clause-few
returns-clause-few g c =
    let same : c.as_slice.result.now ≡ c.args.snapshot.now.layers = c.as_slice.ensures ∙ ap (λ (s : SnapshotValue). s.layers) c.snapshot.view_is in
    let is = c.in_ok-layers.ensures ∙ ap (λ (ls : List LayerValue). filter (takes c.args.job) ls) same ∙ taken_is c.args.job c.args.snapshot.now in
    omega (arith, ap length is, taken_short c.args.job c.args.snapshot.now, ap (λ (s : SnapshotValue). length s.layers) c.snapshot.view_is, c.snapshot.invariant.few_layers)

pub returns-clause-apart : goal.returns-clause-apart
returns-clause-apart g c =
    let same : c.as_slice.result.now ≡ c.args.snapshot.now.layers = c.as_slice.ensures ∙ ap (λ (s : SnapshotValue). s.layers) c.snapshot.view_is in
    let is = c.in_ok-layers.ensures ∙ ap (λ (ls : List LayerValue). filter (takes c.args.job) ls) same ∙ taken_is c.args.job c.args.snapshot.now in
    let apart : AreApart (all_living c.args.snapshot.now.layers) = subst (λ (s : SnapshotValue). AreApart (all_living s.layers)) c.snapshot.view_is c.snapshot.invariant.distinct in
    subst (λ (ls : List LayerValue). AreApart (all_living ls)) (sym is) (taken_apart c.args.job c.args.snapshot.now apart)
