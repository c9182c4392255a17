-- Tellings: steps as calls tell them.
use Rattle.std.specs.Prelude.{ℕ, Option, None, Some, false, [], map}
use Rattle.doc_types.specs.declared.schema.Schema.{Schema}
use Rattle.doc_types.specs.declared.transactions.Txn.{Txn}
use Rattle.doc_types.specs.Commits.{Entry, change_of}
use Rattle.step_history.specs.declared.job.Job.TheVariants.{Flush}
use Rattle.step_history.specs.History.{Base, Step, Commit, Reshape}
use Rattle.step_book.specs.declared.made.Told.{Told}
use Rattle.step_book.specs.declared.made.Told.TheVariants as told

-- What there was at opening: how many calls of the disk had failed, the number of the next file, and that of the root.
pub record AtOpening : Type 0 where
  pub faults : ℕ
  pub file : ℕ
  pub root : ℕ

-- the entry of a transaction
abbrev pub entry_of : ℕ → ℕ → ℕ → Txn → Entry
entry_of worker seq number txn = record { worker = worker; seq = seq; number = number; changes = map change_of txn.ops }

-- the step that is told
abbrev pub step_of : {C : Type 0} → Told C → Step
step_of (told.Commit worker seq number txn snapshot) = Commit (entry_of worker seq number txn.value) snapshot.value
step_of (told.Reshape job through snapshot) = Reshape job through snapshot.value

-- the worker of a commit
abbrev pub worker_of : Step → Option ℕ
worker_of (Commit entry snapshot) = Some entry.worker
worker_of (Reshape job through snapshot) = None

-- what stands in for names that nobody picked
abbrev pub no_base : Base
no_base = record { opening = record { number = 0; shape = 0; layers = [] }; log = 0 }

abbrev pub no_schema : Schema
no_schema = record { name = []; fields = []; attrs = []; zones = []; sp = false; min_prefix = 0 }

abbrev pub nothing_opened : AtOpening
nothing_opened = record { faults = 0; file = 0; root = 0 }

abbrev pub no_step : Step
no_step = Reshape Flush 0 no_base.opening
