use Rattle.std.proofs.Common.{◌≡◌, ◌≤◌, ◌∙◌, ◌+◌, List, [], ◌∷◌, ◌++◌, Option, Some, true, ap, inl, sym, subst, rules}
use Rattle.step_book.specs.Fronts.{FrontValue}
use Rattle.step_history.specs.History.{Step}
use Rattle.step_line.specs.Lines.{LineValue, MayFollow, entered, with_waiting}
use Rattle.job_files.specs.Jobs.{TakesNumbers}
use Rattle.store_keep.specs.Charges.{jobs_in}
use Rattle.store_keep.specs.steps.Charging.{TakesFew}
use Rattle.store_steps.specs.Kept.{Gives}
use Rattle.store_steps.proofs.Leaving.{leaves_weaker}
use Rattle.store_steps.specs.declared.files.Files.{Files}
use Rattle.store_keep.specs.Commits.{GivesEntered, front_of}
use Rattle.store_keep.specs.Installs.{end_of}
use Rattle.store_keep.specs.Keepers.{Keeps}
use Rattle.store_keep.proofs.Carrying.{few_ended, jobs_grow}
use Rattle.store_keep.proofs.Ending.{made_leaves}
use Rattle.store_keep.proofs.Reshaping.{job_ended, same_entered_job}
use Rattle.store_keep.proofs.kept.Kept.end_job.Goals as goal

pub new-pending-requires-clause-follows : goal.new-pending-requires-clause-follows
new-pending-requires-clause-follows g c =
    let line = c.args.self.now.line in
    let front : c.front.result.now ≡ front_of line = search rules in
    let made : c.reshape-made.result ≡ end_of (g.J.Naming.base line.index) line c.args.new.now = search rules in
    subst (λ (f : FrontValue). MayFollow (g.J.Naming.schema f.index) (g.J.Naming.base f.index) f.steps c.reshape-made.result) (sym front)
    (subst (λ (s : Step). MayFollow (g.J.Naming.schema line.index) (g.J.Naming.base line.index) line.history s) (sym made) c.requires.prepared.may)

pub publish_end-requires-clause-kept : goal.publish_end-requires-clause-kept
publish_end-requires-clause-kept g c =
    let line = c.args.self.now.line in
    let mid : c.put.new.self ≡ record line { waiting = Some (end_of (g.J.Naming.base line.index) line c.args.new.now) } = search rules in
    subst (λ (l : LineValue). Keeps g.D.Disk g.J.Naming.schema g.J.Naming.base c.write_end.new.self.disk c.write_end.new.self.files l) (sym mid) c.in-Ok.ensures.ok

pub returns-in-Ok-clause-ends : goal.returns-in-Ok-clause-ends
returns-in-Ok-clause-ends g c =
    let line = c.args.self.now.line in
    let mid : c.put.new.self ≡ record line { waiting = Some (end_of (g.J.Naming.base line.index) line c.args.new.now) } = search rules in
    let later : g.D.Disk.faults c.args.self.now.disk ≤ g.D.Disk.faults c.write_end.new.self.disk = search rules in
    let sure : c.publish_end.new.self.files.sure ≡ true = ap (λ (f : Files). f.sure) c.publish_end.ensures.files ∙ c.in-Ok.ensures.sure in
    job_ended (g.J.Naming.base line.index) line c.put.new.self c.args.self.now.files c.args.token.now c.args.new.now (g.D.Disk.faults c.args.self.now.disk) (g.D.Disk.faults c.write_end.new.self.disk) (g.D.Disk.faults c.publish_end.new.self.disk) c.publish_end.result c.publish_end.new.self.line c.publish_end.new.self.files c.publish_end.new.token
    mid c.requires.room later sure c.publish_end.ensures.ends

pub returns-in-Ok-clause-crash : goal.returns-in-Ok-clause-crash
returns-in-Ok-clause-crash g c =
    let line = c.args.self.now.line in
    let step = end_of (g.J.Naming.base line.index) line c.args.new.now in
    let mid : c.put.new.self ≡ record line { waiting = Some step } = search rules in
    made_leaves g.D.Disk g.J.Naming.schema g.J.Naming.base c.args.self.now.disk c.write_end.new.self.disk c.publish_end.new.self.disk line c.put.new.self c.publish_end.new.self.line step mid
    (same_entered_job c.put.new.self c.publish_end.new.self.line c.args.token.now c.publish_end.new.token (g.D.Disk.faults c.write_end.new.self.disk) (g.D.Disk.faults c.publish_end.new.self.disk) c.publish_end.result c.publish_end.ensures.ends)
    c.write_end.ensures.crash c.publish_end.ensures.crash

pub returns-in-Err-NoMemory-clause-crash : goal.returns-in-Err-NoMemory-clause-crash
returns-in-Err-NoMemory-clause-crash g c =
    let line = c.args.self.now.line in
    leaves_weaker g.D.Disk c.args.self.now.disk c.write_end.new.self.disk {P = Gives (g.J.Naming.schema line.index) (g.J.Naming.base line.index) line.history} {R = GivesEntered (g.J.Naming.schema line.index) (g.J.Naming.base line.index) line.history c.write_end.new.self.line} (λ x gives. inl gives) c.write_end.ensures.crash

pub returns-clause-crash : goal.returns-clause-crash
returns-clause-crash g c =
    let line = c.args.self.now.line in
    leaves_weaker g.D.Disk c.args.self.now.disk c.write_end.new.self.disk {P = Gives (g.J.Naming.schema line.index) (g.J.Naming.base line.index) line.history} {R = GivesEntered (g.J.Naming.schema line.index) (g.J.Naming.base line.index) line.history c.write_end.new.self.line} (λ x gives. inl gives) c.write_end.ensures.crash

pub returns-in-Ok-clause-numbers : goal.returns-in-Ok-clause-numbers
returns-in-Ok-clause-numbers g c =
    let line = c.args.self.now.line in
    let step = end_of (g.J.Naming.base line.index) line c.args.new.now in
    let mid : c.put.new.self ≡ record line { waiting = Some step } = search rules in
    let last = c.publish_end.new.self in
    let later : g.D.Disk.faults c.args.self.now.disk ≤ g.D.Disk.faults last.disk = search rules in
    let takes : TakesNumbers c.args.self.now.files c.write_end.new.self.files = search rules in
    let all : entered last.line ≡ line.history ++ step ∷ [] =
    same_entered_job c.put.new.self last.line c.args.token.now c.publish_end.new.token (g.D.Disk.faults c.write_end.new.self.disk) (g.D.Disk.faults last.disk) c.publish_end.result c.publish_end.ensures.ends ∙ ap (λ (l : LineValue). entered l) mid in
    let was : line.history ≡ entered line = sym (ap (λ (w : Option Step). with_waiting line.history w) c.requires.none) in
    let one : jobs_in (entered last.line) ≡ jobs_in line.history + 1 = ap (λ (steps : List Step). jobs_in steps) all ∙ jobs_grow line.history (step ∷ []) in
    subst (λ (steps : List Step). TakesFew steps (g.D.Disk.faults c.args.self.now.disk) c.args.self.now.files (entered last.line) (g.D.Disk.faults last.disk) last.files) was
    (subst (λ (f : Files). TakesFew line.history (g.D.Disk.faults c.args.self.now.disk) c.args.self.now.files (entered last.line) (g.D.Disk.faults last.disk) f) (sym c.publish_end.ensures.files)
    (few_ended line.history (entered last.line) (g.D.Disk.faults c.args.self.now.disk) (g.D.Disk.faults last.disk) c.args.self.now.files c.write_end.new.self.files takes one later))
