use Rattle.std.proofs.Common.{◌≡◌, ◌≤◌, ℕ, ap, length, sym, subst, arith, rules, None, Err}
use Rattle.srch_base.specs.declared.faults.Failed.{Failed}
use Rattle.srch_base.specs.declared.faults.Or.{Or}
use Rattle.srch_base.specs.declared.faults.Or.TheVariants as causes
use Rattle.store_keep.specs.steps.Stages.{Readies}
use Rattle.job_chunks.specs.Chunks.{IsNewChunk}
use Rattle.job_states.specs.States.{HasSeen}
use Rattle.step_line.specs.Lines.{LineValue, entered}
use Rattle.store_steps.proofs.Keeping.{gives_now}
use Rattle.store_steps.proofs.Leaving.{leaves_still}
use Rattle.store_steps.specs.Kept.{GivesEither}
use Rattle.store_steps.specs.Refusals.{stray_of}
use Rattle.store_keep.proofs.Reshaping.{after_job, seen_behind, unsettled_job, within_entered}
use Rattle.store_keep.proofs.Straying.{commit_leaves, ready_leaves, seen_within}
use Rattle.store_keep.proofs.keeper.Keeper.install_by.Goals as goal

pub install_next-requires-clause-seen : goal.install_next-requires-clause-seen
install_next-requires-clause-seen g c =
    let line = c.args.self.now.kept.line in
    let next = c.ready.new.self.line in
    let token = c.args.token.now in
    let base = g.J.Naming.base line.index in
    let index : line.index ≡ next.index = sym (ap (λ (l : LineValue). l.index) c.in-Ok.ensures.ends.0) in
    let history : next.history ≡ entered line = ap (λ (l : LineValue). l.history) c.in-Ok.ensures.ends.0 in
    let none : stray_of base line token ≡ None = search rules in
    let within : length token.seen ≤ length next.history = omega (arith, seen_within base line token none, within_entered line, ap length history) in
    subst (λ (i : ℕ). HasSeen (g.J.Naming.base i) next.history c.args.new.from) index (seen_behind base c.args.new.from token c.ready.new.token token.made next.history c.in-Ok.ensures.ends.2 within c.requires.seen)

pub install_next-requires-clause-chunk : goal.install_next-requires-clause-chunk
install_next-requires-clause-chunk g c =
    subst (λ (i : ℕ). IsNewChunk (g.J.Naming.schema i) c.args.new) (sym (ap (λ (l : LineValue). l.index) c.in-Ok.ensures.ends.0)) c.requires.chunk

pub returns-in-Some-clause-crash : goal.returns-in-Some-clause-crash
returns-in-Some-clause-crash g c =
    let line = c.args.self.now.kept.line in
    ready_leaves g.D.Disk (g.J.Naming.schema line.index) (g.J.Naming.base line.index) c.args.self.now.kept.disk c.args.self.now.kept.disk line line
    (leaves_still g.D.Disk c.args.self.now.kept.disk {P = GivesEither (g.J.Naming.schema line.index) (g.J.Naming.base line.index) line.history line.waiting} (g.met.D.Disk.only_now c.args.self.now.kept.disk)
    (gives_now g.D.Disk (g.J.Naming.schema line.index) (g.J.Naming.base line.index) line.history line.waiting c.args.self.now.kept.disk c.args.self.now.kept.files c.requires.kept))

pub returns-in-Ok-clause-crash : goal.returns-in-Ok-clause-crash
returns-in-Ok-clause-crash g c =
    commit_leaves g.D.Disk g.J.Naming.schema g.J.Naming.base c.args.self.now.kept.disk c.ready.new.self.disk c.install_next.new.self.disk c.args.self.now.kept.line c.ready.new.self.line c.install_next.new.self.line c.in-Ok.ensures.ends.0 c.ready.ensures.crash c.install_next.ensures.crash

pub returns-in-Err-NoMemory-clause-crash : goal.returns-in-Err-NoMemory-clause-crash
returns-in-Err-NoMemory-clause-crash g c =
    ready_leaves g.D.Disk (g.J.Naming.schema c.args.self.now.kept.line.index) (g.J.Naming.base c.args.self.now.kept.line.index) c.args.self.now.kept.disk c.ready.new.self.disk c.args.self.now.kept.line c.ready.new.self.line c.ready.ensures.crash

pub returns-clause-crash : goal.returns-clause-crash
returns-clause-crash g c =
    ready_leaves g.D.Disk (g.J.Naming.schema c.args.self.now.kept.line.index) (g.J.Naming.base c.args.self.now.kept.line.index) c.args.self.now.kept.disk c.ready.new.self.disk c.args.self.now.kept.line c.ready.new.self.line c.ready.ensures.crash

pub returns-in-Ok-clause-ends : goal.returns-in-Ok-clause-ends
returns-in-Ok-clause-ends g c =
    let line = c.args.self.now.kept.line in
    let token = c.args.token.now in
    let mid = c.ready.new.self in
    let none : stray_of (g.J.Naming.base line.index) line token ≡ None = search rules in
    after_job g.J.Naming.base line mid.line c.args.self.now.kept.files mid.files mid.files.log token c.ready.new.token c.args.new (g.D.Disk.faults c.args.self.now.kept.disk) (g.D.Disk.faults mid.disk) (g.D.Disk.faults c.install_next.new.self.disk) c.install_next.result c.install_next.new.self.line c.install_next.new.self.files c.install_next.new.token
    none c.in-Ok.ensures.ends.0 c.ready.ensures.files c.in-Ok.ensures.ends.2 c.in-Ok.ensures.ends.3 c.install_next.ensures.ends

pub returns-clause-ends : goal.returns-clause-ends
returns-clause-ends g c =
    let line = c.args.self.now.kept.line in
    let token = c.args.token.now in
    let none : stray_of (g.J.Naming.base line.index) line token ≡ None = search rules in
    let is : c.in-Err-Fault.field-0 ≡ causes.Fault (record {}) = search rules in
    let ends : Readies line token (g.D.Disk.faults c.args.self.now.kept.disk) (Err (causes.Fault (record {}))) c.ready.new.self.line c.ready.new.self.files.log c.ready.new.token (g.D.Disk.faults c.ready.new.self.disk) =
    subst (λ (e : Or Failed). Readies line token (g.D.Disk.faults c.args.self.now.kept.disk) (Err e) c.ready.new.self.line c.ready.new.self.files.log c.ready.new.token (g.D.Disk.faults c.ready.new.self.disk)) is c.in-Err-Fault.ensures.ends in
    unsettled_job (g.J.Naming.base line.index) line c.args.self.now.kept.files token c.args.new (g.D.Disk.faults c.args.self.now.kept.disk) (g.D.Disk.faults c.ready.new.self.disk) c.ready.new.self.line c.ready.new.self.files c.ready.new.token none ends.0 ends.1 ends.2 ends.3 ends.4
