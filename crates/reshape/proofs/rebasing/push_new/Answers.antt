use Rattle.std.proofs.Common.{◌≡◌, List, [], ◌∷◌, ◌++◌, Option, Some, not, ap, subst, sym, ◌∙◌}
use Rattle.doc_types.specs.Snapshots.{LayerValue, SnapshotValue}
use Rattle.reshape_laws.specs.Rebasing.{moved, new_layers}
use Rattle.reshape.specs.Builds.{IsNew, new_rows}
use Rattle.reshape.specs.steps.Moving.{has_moving, numbers}
use Rattle.reshape.proofs.Numbers.{new_is}
use Rattle.reshape.proofs.rebasing.push_new.Goals as goal

pub returns-in_ok-push-in-Some : goal.returns-in_ok-push-in-Some
returns-in_ok-push-in-Some g c =
    let layer = c.in-Some.layer in
    let same : c.as_slice.result.now ≡ c.args.now.now.layers = c.as_slice.ensures ∙ ap (λ (s : SnapshotValue). s.layers) c.now.view_is in
    let is : IsNew (Some layer) = subst IsNew c.in-Some.is c.requires in
    let one = c.in_ok-still_living-in-Some.ensures ∙ ap (λ (ls : List LayerValue). record layer { dead = numbers (λ e. not (has_moving c.args.job c.args.front ls e.1.doc.id)) layer.rows }) same in
    c.in_ok-push-in-Some.ensures.items ∙ ap (λ (l : LayerValue). c.args.out.now.items ++ l ∷ []) one ∙ ap (λ (ls : List LayerValue). c.args.out.now.items ++ ls) (new_is c.args.job c.args.front c.args.now.now layer is)
    ∙ ap (λ (n : Option LayerValue). c.args.out.now.items ++ new_layers (new_rows n) (moved c.args.job c.args.front c.args.now.now)) (sym c.in-Some.is)
