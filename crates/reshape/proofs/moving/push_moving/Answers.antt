use Rattle.std.proofs.Common.{◌≡◌, ◌∙◌, ◌++◌, List, ℕ, true, false, ap, append-nil, rules, sym}
use Rattle.doc_types.specs.Snapshots.{LayerValue}
use Rattle.reshape.specs.steps.Moving.{takes_disk}
use Rattle.reshape.proofs.Moved.{none_moves}
use Rattle.reshape.proofs.moving.push_moving.Goals as goal

pub returns-then-not-takes_disk : goal.returns-then-not-takes_disk
returns-then-not-takes_disk g c =
    let on : c.args.layer.now.disk ≡ true = ap (λ (l : LayerValue). l.disk) (sym c.layer.view_is) ∙ c.if-layer.true in
    let leaves : takes_disk c.args.job ≡ false = search rules in
    sym (append-nil c.args.ids.now.items) ∙ ap (λ (more : List ℕ). c.args.ids.now.items ++ more) (sym (none_moves c.args.job c.args.front c.args.layer.now on leaves))
