use Rattle.std.proofs.Common.{◌≡◌, ℕ, Option, ap, sym, subst, ◌∙◌}
use Rattle.doc_types.specs.Snapshots.{LayerValue, SnapshotValue}
use Rattle.reshape.specs.Builds.{new_rows}
use Rattle.reshape_laws.specs.Rebasing.{HasMoved}
use Rattle.step_history.specs.declared.job.Job.{Job}
use Rattle.store_keep.proofs.job_ends.next_arc.Goals as goal

pub rebase-requires-clause-moved : goal.rebase-requires-clause-moved
rebase-requires-clause-moved c =
    let new = c.args.new.now in
    let number : c.from-2.inside.number ≡ new.from.number = ap (λ (s : SnapshotValue). s.number) c.from-2.view_is ∙ ap (λ (s : SnapshotValue). s.number) (c.deref-from.ensures ∙ c.from.ensures) in
    subst (λ (j : Job). HasMoved j c.from-2.inside.number (new_rows c.in_ok-layer.layer) c.args.now.now) (sym c.job.ensures)
    (subst (λ (n : ℕ). HasMoved new.job n (new_rows c.in_ok-layer.layer) c.args.now.now) (sym number)
    (subst (λ (l : Option LayerValue). HasMoved new.job new.from.number (new_rows l) c.args.now.now) (sym c.in_ok-layer.ensures) c.requires.moved))
