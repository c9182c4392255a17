-- Codes: by what came of a statement, the code of the refusal that is replied to it, if one is.
use Rattle.std.specs.Prelude.{ℕ}
use Rattle.commit_outcomes.specs.declared.outcome.CommitOutcome.{CommitOutcome}
use Rattle.commit_outcomes.specs.declared.outcome.CommitOutcome.TheVariants as outcomes
use Rattle.commit_outcomes.specs.declared.outcome.Doubt.TheVariants as doubts
use Rattle.ql_session.specs.Events.{Commit, Configured, Event, NoMemory, Nothing, Read, Reshape}
use Rattle.ql_session.specs.JobOutcome.{JobOutcome}
use Rattle.ql_session.specs.JobOutcome.TheVariants as job_outcomes

-- a commit: 1105 where a disk refused it or left it in doubt, 1037 where memory left it in doubt, 1064 else
abbrev pub commit_code : CommitOutcome → ℕ
commit_code (outcomes.Committed removed) = 1064
commit_code (outcomes.Duplicate id) = 1064
commit_code (outcomes.Full full) = 1064
commit_code outcomes.Refused = 1105
commit_code (outcomes.InDoubt doubts.Disk) = 1105
commit_code (outcomes.InDoubt doubts.Memory) = 1037
commit_code (outcomes.Strayed numbers) = 1064

-- a job: 1105 where a disk refused it, 1037 where memory left it in doubt, 1064 else
abbrev pub job_code : JobOutcome → ℕ
job_code job_outcomes.Shaped = 1064
job_code (job_outcomes.Overtaken shape) = 1064
job_code (job_outcomes.Full full) = 1064
job_code job_outcomes.Refused = 1105
job_code job_outcomes.InDoubt = 1037
job_code (job_outcomes.Strayed numbers) = 1064

-- any statement: 1037 where memory was refused, and 1064 where neither memory nor a disk had part in it
abbrev pub code_of : {F : Type 0} → Event F → ℕ
code_of (Configured confs) = 1064
code_of Nothing = 1064
code_of NoMemory = 1037
code_of (Read place front) = 1064
code_of (Commit place ops outcome front) = commit_code outcome
code_of (Reshape place job outcome own front) = job_code outcome
