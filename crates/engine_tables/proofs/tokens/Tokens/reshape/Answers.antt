use Rattle.std.proofs.Common.{ℕ, ◌<◌, ◌≤◌, sym, subst, ◌∙◌}
use Rattle.std.specs.Arc.{arc_value}
use Rattle.std.proofs.lemmas.Result.{IfOk-weaker}
use Rattle.doc_types.specs.Snapshots.{SnapshotValue}
use Rattle.job_chunks.specs.Limits.{HasRoom}
use Rattle.step_history.specs.declared.job.Job.{Job}
use Rattle.engine_tables.specs.Workers.{ReshapesBy}
use Rattle.engine_tables.proofs.Jobs.{fails_then, full_by, grown_long, held, no_room, rows_of_schema}
use Rattle.engine_tables.proofs.tokens.Tokens.reshape.Goals as goal

pub build-requires : goal.build-requires
build-requires g c = (
  g.J.Naming.schema c.args.place,
  c.requires.of,
  rows_of_schema g.J.Naming.schema g.J.Naming.base c.read.new.self c.args.place (arc_value c.in_ok-from.from) c.in_ok-from.ensures.found,
)

pub end_job-requires-clause-at : goal.end_job-requires-clause-at
end_job-requires-clause-at g c =
    (subst (λ (n : ℕ). c.args.place < n) (sym (grown_long c.args.self.now c.read.new.self c.read.ensures.grow)) c.requires.at.0, c.requires.at.1)

pub end_job-requires-clause-own : goal.end_job-requires-clause-own
end_job-requires-clause-own g c =
    (subst (λ (w : ℕ). 0 < w) (sym c.read.ensures.grow.0) c.requires.own.0, subst (λ (w : ℕ). w ≤ c.args.engine.now.workers) (sym c.read.ensures.grow.0) c.requires.own.1)

pub end_job-requires-clause-seen : goal.end_job-requires-clause-seen
end_job-requires-clause-seen g c = (c.in_ok-from.ensures.found.0, c.in_ok-from.ensures.found.1, c.in-Ok.ensures.1 ∙ c.in_ok-from.ensures.found.2)

pub end_job-requires-clause-room : goal.end_job-requires-clause-room
end_job-requires-clause-room g c =
    subst (λ (job : Job). HasRoom job c.in-Ok.new.from) (sym c.in-Ok.ensures.0) (subst (λ (from : SnapshotValue). HasRoom c.args.job from) (sym c.in-Ok.ensures.1) c.in-Ok.ensures.2)

pub end_job-requires-clause-chunk : goal.end_job-requires-clause-chunk
end_job-requires-clause-chunk g c =
    c.in-Ok.ensures.3 (g.J.Naming.schema c.args.place) c.requires.of
    (rows_of_schema g.J.Naming.schema g.J.Naming.base c.read.new.self c.args.place (arc_value c.in_ok-from.from) c.in_ok-from.ensures.found)

pub returns-in-Ok-clause-reshapes : goal.returns-in-Ok-clause-reshapes
returns-in-Ok-clause-reshapes g c =
    IfOk-weaker c.end_job.result _ _
    (λ outcome ends. (
      c.read.new.self,
      ends.0,
      ends.1,
      c.read.ensures.grow,
      ends.2,
      subst (λ (job : Job). ReshapesBy g.J.Naming.schema g.J.Naming.base c.read.new.self c.args.place job outcome ends.0 ends.1 c.end_job.new.self) c.in-Ok.ensures.0 ends.3,
    ))
    c.end_job.ensures.ends

pub returns-in-Ok-clause-failed : goal.returns-in-Ok-clause-failed
returns-in-Ok-clause-failed g c = fails_then c.args.self.now c.read.new.self c.end_job.new.self c.end_job.result c.read.ensures.grow c.end_job.ensures.failed

pub returns-clause-reshapes : goal.returns-clause-reshapes
returns-clause-reshapes g c =
    let within = subst (λ (n : ℕ). c.args.place < n) (sym (c.read.ensures.alike ∙ grown_long c.args.self.now c.read.new.self c.read.ensures.grow)) c.requires.at.0 in
    let had = held c.read.new.self.told c.args.place within in
    let found = c.in_ok-from.ensures.found in (
      c.read.new.self,
      found.0,
      found.0,
      c.read.ensures.grow,
      found.1,
      no_room g.J.Naming.schema g.J.Naming.base c.read.new.self c.args.place c.args.job c.in-Err-Fault.full found.0 (arc_value c.in_ok-from.from) had.0 found.1 had.1 found.2
          (full_by c.args.job (arc_value c.in_ok-from.from) c.in-Err-Fault.field-0 c.in-Err-Fault.full c.in-Err-Fault.field-0-is c.in-Err-Fault.ensures),
    )
