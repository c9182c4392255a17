-- Stages of a commit: what each of its parts says.
use Rattle.std.specs.Prelude.{◌≡◌, ◌≢◌, ℕ, ◌+◌, ◌≤◌, ◌<◌, ◌^◌, List, Some, None, Result, Ok, Err, length}
use Rattle.srch_base.specs.Counts.{Rose}
use Rattle.srch_base.specs.declared.faults.Failed.{Failed}
use Rattle.srch_base.specs.declared.faults.Or.{Or}
use Rattle.srch_base.specs.declared.faults.Or.TheVariants as causes
use Rattle.commit_outcomes.specs.declared.outcome.Doubt.TheVariants as doubts
use Rattle.doc_types.specs.Commits.{Entry}
use Rattle.doc_types.specs.Snapshots.{SnapshotValue}
use Rattle.doc_types.specs.declared.schema.Schema.{Schema}
use Rattle.doc_types.specs.declared.transactions.TxnOp.{TxnOp}
use Rattle.gate_log.specs.declared.log.GateLog.{GateLog}
use Rattle.gate_log.specs.declared.records.LogRecord.{LogRecord}
use Rattle.step_history.specs.History.{Base, Step, Commit, CommitFollows}
use Rattle.step_history.specs.Logs.{log_at}
use Rattle.step_line.specs.Lines.{LineValue, entered, settled}
use Rattle.step_tokens.specs.Tokens.{Agrees, TokenValue}
use Rattle.store_steps.specs.Answers.{Becomes}
use Rattle.store_steps.specs.Batches.{IsBatchOf, batch_of, record_of}
use Rattle.store_keep.specs.Commits.{Learns, Refuses, front_of}
use Rattle.store_keep.specs.declared.fault.CommitFault.{CommitFault}
use Rattle.store_keep.specs.declared.fault.CommitFault.TheVariants as faults
use Rattle.store_keep.specs.declared.fault.Committed.{Committed}
use Rattle.store_keep.specs.declared.preparing.Prepared.{Prepared}

-- The step is a commit that may follow these steps, and the record is its entry's. The log has room for it.
pub record Enters (schema : Schema) (base : Base) (steps : List Step) (step : Step) (r : LogRecord) : Type 0 where
  pub entry : Entry
  pub snapshot : SnapshotValue
  pub is : step ≡ Commit entry snapshot
  pub record_is : r ≡ record_of (batch_of entry)
  pub follows : CommitFollows base steps entry snapshot
  pub of : IsBatchOf schema (batch_of entry)
  pub number : entry.number < 2 ^ 63
  pub room : log_at base steps + (13 + length r.payload) < 2 ^ 64

-- what settling before a commit says and leaves, with what the token learns
abbrev pub Readies : LineValue → TokenValue → ℕ → Result (Unit {0}) (Or Failed) → LineValue → GateLog → TokenValue → ℕ → Type 0
Readies line token before (Ok done) new log after now = (new ≡ settled line) × (log.staged ≡ None) × Learns token after token.made new.history × (before ≤ now)
Readies line token before (Err causes.NoMemory) new log after now = (new ≡ line) × Learns token after token.made new.history × (before ≤ now)
Readies line token before (Err (causes.Fault failed)) new log after now = (new ≡ line) × Learns token after token.made new.history × (before ≤ now) × Rose before now × (line.waiting ≢ None)

-- A commit that has its memory: its step follows the line, and its record is the step's.
pub record IsPrepared {J : Type 0} (schema : Schema) (base : Base) (line : LineValue) (worker : ℕ) (ops : List TxnOp) (prepared : Prepared J) : Type 0 where
  pub enters : Enters schema base line.history prepared.pending.step prepared.staged
  pub from : prepared.pending.from ≡ front_of line
  pub number : prepared.number ≡ enters.entry.number
  pub becomes : Becomes base line.history worker ops enters.entry enters.snapshot prepared.removed
  pub room : length line.history + 1 < 2 ^ 63

-- what preparing a commit behind the line says
abbrev pub Prepares : {J : Type 0} → Schema → Base → LineValue → ℕ → List TxnOp → Result (Prepared J) (CommitFault J) → Type 0
Prepares schema base line worker ops (Ok prepared) = IsPrepared schema base line worker ops prepared
Prepares schema base line worker ops (Err fault) = Refuses base line ops fault

-- what is said and left where the step that waits is a commit that was just entered; its token counts it already
abbrev pub Finishes : {J : Type 0} → LineValue → TokenValue → ℕ → ℕ → ℕ → Result (Committed J) (CommitFault J) → LineValue → GateLog → TokenValue → ℕ → Type 0
Finishes line token number removed before (Ok made) new log after now =
    (new ≡ settled line) × (made.note ≡ front_of new) × (made.number ≡ number) × (made.removed ≡ removed) × Learns token after token.made new.history × (before ≤ now)
Finishes line token number removed before (Err (faults.InDoubt doubts.Disk)) new log after now = (new ≡ line) × (after ≡ record token { entered = Some (entered line) }) × Agrees token.entered (entered line) × (before ≤ now) × Rose before now × (log.staged ≢ None)
Finishes line token number removed before (Err (faults.InDoubt doubts.Memory)) new log after now = (new ≡ line) × (after ≡ record token { entered = Some (entered line) }) × Agrees token.entered (entered line) × (before ≤ now) × (log.staged ≡ None)
Finishes line token number removed before (Err fault) new log after now = ⊥
