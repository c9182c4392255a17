use Rattle.std.proofs.Common.{◌≤◌, ℕ, All, ap, subst, sym, ◌∙◌}
use Rattle.doc_types.specs.Snapshots.{AreLayers, IsLayer, SnapshotValue}
use Rattle.root_slots.specs.States.{IsState}
use Rattle.root_slots.specs.declared.state.RootState.{RootState}
use Rattle.step_history.specs.History.{Reshape, Step}
use Rattle.std.specs.Option.{option_copied}
use Rattle.job_files.specs.Jobs.{IsJob}
use Rattle.store_steps.proofs.Keeping.{gives_at_rest}
use Rattle.store_steps.proofs.Leaving.{leaves_still}
use Rattle.job_states.proofs.Ends.{ends}
use Rattle.job_states.proofs.Layouts.{state_is}
use Rattle.job_states.proofs.finishing.finish.Goals as goal

pub new-requires : goal.new-requires
new-requires g c =
    let kept = c.requires.kept in
    let own : IsState c.args.files.now.state = subst IsState (sym kept.state_is) kept.state in
    let low : c.args.files.now.state.next_file ≤ c.args.files.now.next_file = subst (λ (s : RootState). s.next_file ≤ c.args.files.now.next_file) (sym kept.state_is) kept.made in
    let layers : All IsLayer c.args.then.now.layers = subst (λ (s : SnapshotValue). All IsLayer s.layers) c.then.view_is c.then.invariant.each in
    subst IsState (sym c.in-Ok.ensures) (state_is c.args.files.now.state c.args.job c.args.then.now c.args.files.now.next_file (option_copied c.args.chunk) own low layers c.requires.small c.requires.numbers c.requires.number c.requires.few c.requires.short)

pub install-requires-clause-job : goal.install-requires-clause-job
install-requires-clause-job g c =
    let kept = c.requires.kept in
    let own : IsState c.args.files.now.state = subst IsState (sym kept.state_is) kept.state in
    let low : c.args.files.now.state.next_file ≤ c.args.files.now.next_file = subst (λ (s : RootState). s.next_file ≤ c.args.files.now.next_file) (sym kept.state_is) kept.made in
    let then_is : AreLayers c.args.then.now.layers = subst (λ (s : SnapshotValue). AreLayers s.layers) c.then.view_is c.then.invariant in
    let now_is : AreLayers c.args.now.now.layers = subst (λ (s : SnapshotValue). AreLayers s.layers) c.now.view_is c.now.invariant in
    let state = state_is c.args.files.now.state c.args.job c.args.then.now c.args.files.now.next_file (option_copied c.args.chunk) own low then_is.each c.requires.small c.requires.numbers c.requires.number c.requires.few c.requires.short in
    let schema = g.J.Naming.schema c.args.front.now.index in
    let base = g.J.Naming.base c.args.front.now.index in
    subst (λ (s : Step). IsJob schema base c.args.front.now.steps c.args.files.now.state c.args.files.now.next_file (option_copied c.args.chunk) c.in-Ok.state s) (sym (c.reshape-made.ensures ∙ ap (λ (n : ℕ). Reshape c.args.job n c.args.next.now) (ap (λ (s : SnapshotValue). s.number) c.then.view_is)))
    (subst (λ (s : RootState). IsJob schema base c.args.front.now.steps c.args.files.now.state c.args.files.now.next_file (option_copied c.args.chunk) s (Reshape c.args.job c.args.then.now.number c.args.next.now)) (sym c.in-Ok.ensures)
    (ends g.D.Disk schema base c.args.front.now.steps c.args.disk.now c.args.files.now kept c.requires.rests c.len-steps.ensures.good c.args.job c.args.files.now.next_file (option_copied c.args.chunk) c.requires.seen.earlier c.requires.seen.since c.requires.seen.both
    c.args.then.now c.args.now.now c.args.next.now c.requires.seen.last_one c.requires.now c.requires.same then_is now_is c.requires.built state))

pub returns-in-Ok-clause-crash : goal.returns-in-Ok-clause-crash
returns-in-Ok-clause-crash g c = leaves_still g.D.Disk c.args.disk.now (g.met.D.Disk.only_now c.args.disk.now) (gives_at_rest g.D.Disk _ _ _ _ _ c.requires.kept c.requires.rests)

pub returns-clause-crash : goal.returns-clause-crash
returns-clause-crash g c = leaves_still g.D.Disk c.args.disk.now (g.met.D.Disk.only_now c.args.disk.now) (gives_at_rest g.D.Disk _ _ _ _ _ c.requires.kept c.requires.rests)
