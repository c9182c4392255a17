use Rattle.std.proofs.Common.{◌≡◌, ◌<◌, ◌^◌, List, ◌++◌, length, ap, subst, sym, ◌∙◌, arith}
use Rattle.doc_types.specs.Snapshots.{AreLayers, LayerValue, SnapshotValue}
use Rattle.reshape_laws.specs.Rebasing.{moved, new_layers, rebased}
use Rattle.reshape.specs.Builds.{new_rows}
use Rattle.reshape.specs.steps.Moving.{young_layers}
use Rattle.reshape.proofs.Numbers.{rebased_sound}
use Rattle.reshape.proofs.rebasing.rebase.Goals as goal

pub invariant_of-result : goal.invariant_of-result
invariant_of-result g c =
    let job = c.args.job in
    let front = c.args.front in
    let rows = new_rows c.args.new.now in
    let now = c.args.now.now in
    let same : c.as_slice.result.now ≡ now.layers = c.as_slice.ensures ∙ ap (λ (s : SnapshotValue). s.layers) c.now.view_is in
    let are : AreLayers now.layers = subst (λ (s : SnapshotValue). AreLayers s.layers) c.now.view_is c.now.invariant in
    let layers : c.push_all_young.new.out.items ≡ (rebased job front rows now).layers =
    c.in_ok-push_all_young.ensures ∙ ap (λ (ls : List LayerValue). c.push_new.new.out.items ++ young_layers front ls) same
    ∙ ap (λ (l : List LayerValue). l ++ young_layers front now.layers) (c.in_ok-push_new.ensures ∙ ap (λ (l : List LayerValue). l ++ new_layers rows (moved job front now)) c.in_ok-layers.ensures) in
    let few : length (rebased job front rows now).layers < 2 ^ 16 = omega (arith, c.if-len-gt-MAX_LAYERS.false, c.len.ensures, ap length layers) in
    subst AreLayers (sym (c.new.ensures ∙ layers)) (rebased_sound job front c.args.new.now now are c.requires.new c.requires.moved few)
