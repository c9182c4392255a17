use Rattle.std.proofs.Common.{◌≡◌, ◌≢◌, ◌∙◌, ℕ, None, inl, inr, ⊎_elim, ap, sym, subst}
use Rattle.step_line.specs.Tallies.{TallyValue}
use Rattle.store_steps.proofs.Keeping.{gives_now}
use Rattle.store_steps.proofs.Leaving.{leaves_still}
use Rattle.store_steps.specs.Kept.{GivesEither, LeavesOnly}
use Rattle.store_keep.specs.Charges.{HasEnded, IsBacked}
use Rattle.store_keep.specs.Commits.{GivesAny}
use Rattle.store_keep.specs.Keepers.{IsSound}
use Rattle.store_keep.specs.declared.keeper.Keeper.{Keeper}
use Rattle.store_keep.proofs.Carrying.{may_charge, sound_after}
use Rattle.store_keep.proofs.Charged.{installs_moves, installs_rose}
use Rattle.store_keep.proofs.Stopped.{holds_still_job, stops_job}
use Rattle.store_keep.proofs.Straying.{ready_leaves}
use Rattle.store_keep.proofs.keeper.Keeper.install.Goals as goal

pub charge-requires-clause-may : goal.charge-requires-clause-may
charge-requires-clause-may g c =
    let ready = c.make_ready.new.self in
    let next = c.install_by-answer.new.self in
    let r = c.install_by-answer.result in
    let base = g.J.Naming.base ready.kept.line.index in
    let opened = g.J.Naming.opened in
    let before = g.D.Disk.faults ready.kept.disk in
    let now = g.D.Disk.faults next.kept.disk in
    let ends = c.install_by-answer.ensures.ends in
    let moves = installs_moves base ready.kept.line ready.kept.files c.args.token.now c.args.new before now next.kept.line next.kept.files c.install_by-answer.new.token r ends in
    let same : ready.kept.line.index ≡ next.kept.line.index = sym moves.index in
    let tally : ready.faults ≡ next.faults = sym (ap (λ (k : Keeper g.row.D.Denot g.row.J.Denot). k.faults) c.install_by-answer.ensures.rest) in
    let backed : IsBacked (opened next.kept.line.index) before next.faults.calls = subst (λ (i : ℕ). IsBacked (opened i) before next.faults.calls) same (subst (λ (t : TallyValue). IsBacked (opened ready.kept.line.index) before t.calls) tally c.make_ready.ensures.sound.backed) in
    may_charge c.charge_of_job.result (opened next.kept.line.index) next.kept.line.history before now next.strayed next.faults.calls backed moves.later
    (λ fault. installs_rose base ready.kept.line ready.kept.files c.args.token.now c.args.new before now next.kept.line next.kept.files c.install_by-answer.new.token r ends (sym c.charge_of_job.ensures ∙ fault))
    (λ stop.
    ⊎_elim (λ some. inl (λ none. some (sym c.install_by-answer.ensures.strayed ∙ none)))
    (λ ended. inr (subst (λ (i : ℕ). HasEnded (opened i) next.kept.line.history now) same ended))
    (stops_job base ready.kept.line ready.kept.files c.args.token.now c.args.new before now next.kept.line next.kept.files c.install_by-answer.new.token ready.strayed (opened ready.kept.line.index) r ends c.make_ready.ensures.sound.numbers (sym c.charge_of_job.ensures ∙ stop)))

pub charge-requires-clause-sound : goal.charge-requires-clause-sound
charge-requires-clause-sound g c =
    let ready = c.make_ready.new.self in
    let next = c.install_by-answer.new.self in
    let r = c.install_by-answer.result in
    let base = g.J.Naming.base ready.kept.line.index in
    let opened = g.J.Naming.opened in
    let before = g.D.Disk.faults ready.kept.disk in
    let now = g.D.Disk.faults next.kept.disk in
    let ends = c.install_by-answer.ensures.ends in
    let moves = installs_moves base ready.kept.line ready.kept.files c.args.token.now c.args.new before now next.kept.line next.kept.files c.install_by-answer.new.token r ends in
    let holds : (ready.strayed ≢ None) → next.strayed ≢ None = λ some none. holds_still_job ready.strayed r some (sym c.install_by-answer.ensures.strayed ∙ none) in
    subst (λ (k : Keeper g.row.D.Denot g.row.J.Denot). IsSound g.D.Disk g.J.Naming.schema g.J.Naming.base opened k) (sym c.install_by-answer.ensures.rest)
    (sound_after g.D.Disk g.J.Naming.schema g.J.Naming.base opened ready next.kept next.strayed c.make_ready.ensures.sound c.install_by-answer.ensures.kept moves c.install_by-answer.ensures.numbers holds)

pub returns-in-Err-clause-crash : goal.returns-in-Err-clause-crash
returns-in-Err-clause-crash g c =
    let k = c.args.self.now.kept in
    let schema = g.J.Naming.schema k.line.index in
    let base = g.J.Naming.base k.line.index in
    subst (λ (x : Keeper g.row.D.Denot g.row.J.Denot). LeavesOnly g.D.Disk k.disk x.kept.disk (GivesAny schema base k.line x.kept.line)) (sym c.make_ready.ensures.same)
    (ready_leaves g.D.Disk schema base k.disk k.disk k.line k.line
    (leaves_still g.D.Disk k.disk {P = GivesEither schema base k.line.history k.line.waiting} (g.met.D.Disk.only_now k.disk)
    (gives_now g.D.Disk schema base k.line.history k.line.waiting k.disk k.files c.requires.sound.kept)))
