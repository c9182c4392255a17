-- Answers: what the public calls say: a commit or the end of a job, and how its answer is charged.
use Rattle.std.specs.Prelude.{◌≡◌, ◌⊎◌, ℕ, List, Result, Err}
use Rattle.doc_types.specs.declared.transactions.TxnOp.{TxnOp}
use Rattle.gate_log.specs.declared.log.GateLog.{GateLog}
use Rattle.job_chunks.specs.Chunks.{NewChunkValue}
use Rattle.step_book.specs.Fronts.{FrontValue}
use Rattle.step_history.specs.History.{Base}
use Rattle.step_line.specs.Lines.{LineValue}
use Rattle.step_tokens.specs.Tokens.{TokenValue}
use Rattle.store_steps.specs.declared.files.Files.{Files}
use Rattle.store_keep.specs.Charges.{Charges, charge_of, charge_of_job}
use Rattle.store_keep.specs.Commits.{Commits, IsSame}
use Rattle.store_keep.specs.Installs.{Installs}
use Rattle.store_keep.specs.declared.fault.CommitFault.{CommitFault}
use Rattle.store_keep.specs.declared.fault.CommitFault.TheVariants as faults
use Rattle.store_keep.specs.declared.fault.Committed.{Committed}
use Rattle.store_keep.specs.declared.install_fault.InstallFault.{InstallFault}
use Rattle.store_keep.specs.declared.install_fault.InstallFault.TheVariants as endings

-- The commit couldn't have been charged, so nothing was done.
pub record IsUnready {J : Type 0} (line : LineValue) (token : TokenValue) (before : ℕ) (result : Result (Committed J) (CommitFault J)) (new : LineValue) (after : TokenValue) (now : ℕ) : Type 0 where
  pub answer : result ≡ Err faults.NoMemory
  pub same : IsSame line token before new after now

-- It ended so, which left the token so, and then its answer was charged.
pub record IsCharged {J : Type 0} (base : Base) (line : LineValue) (token : TokenValue) (worker : ℕ) (ops : List TxnOp) (before : ℕ) (result : Result (Committed J) (CommitFault J)) (new : LineValue) (log : GateLog) (after : TokenValue) (now : ℕ) : Type 0 where
  pub mid : TokenValue
  pub commits : Commits base line token worker ops before result new log mid now
  pub charges : Charges (charge_of result) mid after

-- what a call of `commit` says and leaves
abbrev pub AnswersCommit : {J : Type 0} → Base → LineValue → TokenValue → ℕ → List TxnOp → ℕ → Result (Committed J) (CommitFault J) → LineValue → GateLog → TokenValue → ℕ → Type 0
AnswersCommit {J} base line token worker ops before result new log after now =
    IsUnready {J = J} line token before result new after now ⊎ IsCharged {J = J} base line token worker ops before result new log after now

-- The end of a job couldn't have been charged, so nothing was done.
pub record IsUnreadyJob {J : Type 0} (line : LineValue) (token : TokenValue) (before : ℕ) (result : Result FrontValue (InstallFault J)) (next : LineValue) (after : TokenValue) (now : ℕ) : Type 0 where
  pub answer : result ≡ Err endings.NoMemory
  pub same : IsSame line token before next after now

-- It ended so, which left the token so, and then its answer was charged.
pub record IsChargedJob {J : Type 0} (base : Base) (line : LineValue) (files : Files) (token : TokenValue) (new : NewChunkValue) (before : ℕ) (result : Result FrontValue (InstallFault J)) (next : LineValue) (kept : Files) (after : TokenValue) (now : ℕ) : Type 0 where
  pub mid : TokenValue
  pub installs : Installs base line files token new before result next kept mid now
  pub charges : Charges (charge_of_job result) mid after

-- what a call of `install` says and leaves
abbrev pub AnswersInstall : {J : Type 0} → Base → LineValue → Files → TokenValue → NewChunkValue → ℕ → Result FrontValue (InstallFault J) → LineValue → Files → TokenValue → ℕ → Type 0
AnswersInstall {J} base line files token new before result next kept after now =
    IsUnreadyJob {J = J} line token before result next after now ⊎ IsChargedJob {J = J} base line files token new before result next kept after now
