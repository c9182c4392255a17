-- Installs: what the end of a job says, and what it leaves.
use Rattle.std.specs.Prelude.{◌≡◌, ◌≢◌, ◌⊎◌, ℕ, ◌+◌, ◌≤◌, ◌<◌, true, nat_lt, nat_le, if◌then◌else◌, [], ◌∷◌, ◌++◌, Option, Some, None, Result, Ok, Err}
use Rattle.std.specs.Option.{option_or}
use Rattle.srch_base.specs.Counts.{Rose}
use Rattle.commit_outcomes.specs.declared.outcome.Full.{Full}
use Rattle.commit_outcomes.specs.declared.outcome.FullKind.TheVariants as limits
use Rattle.commit_outcomes.specs.declared.strayed.Strayed.{Strayed}
use Rattle.doc_types.specs.Snapshots.{SnapshotValue}
use Rattle.job_chunks.specs.Chunks.{NewChunkValue}
use Rattle.reshape_laws.specs.Rebasing.{rebased}
use Rattle.step_book.specs.Fronts.{FrontValue}
use Rattle.step_history.specs.History.{Base, Step, Reshape, last_snapshot}
use Rattle.step_line.specs.Lines.{LineValue, entered, settled}
use Rattle.step_tokens.specs.Tokens.{Agrees, TokenValue}
use Rattle.store_steps.specs.Refusals.{stray_of}
use Rattle.store_steps.specs.declared.files.Files.{Files}
use Rattle.store_keep.specs.Commits.{IsSame, Learns, front_of}
use Rattle.store_keep.specs.declared.job_ends.TheConstants.{LAST_FILE, LAST_ROOT}
use Rattle.store_keep.specs.declared.install_fault.InstallFault.{InstallFault}
use Rattle.store_keep.specs.declared.install_fault.InstallFault.TheVariants as faults

-- the last snapshot behind the line once the chunk of a job takes its place there, and the step at which the job ends
abbrev pub installed : Base → LineValue → NewChunkValue → SnapshotValue
installed base line new = rebased new.job new.from.number new.rows (last_snapshot base line.history)

abbrev pub end_of : Base → LineValue → NewChunkValue → Step
end_of base line new = Reshape new.job new.from.number (installed base line new)

-- the shape of the published history
abbrev pub shape_of : Base → LineValue → ℕ
shape_of base line = (last_snapshot base line.history).shape

-- the numbers of roots have ended
abbrev pub full_roots : Files → Option Full
full_roots files = if nat_le LAST_ROOT files.root.number then Some (record { what = limits.Root; at = files.root.number; need = 1 }) else None

-- the numbers of files have ended, of which a job needs two, or those of roots
abbrev pub full_root : Files → Option Full
full_root files = if nat_lt LAST_FILE (files.next_file + 2) then Some (record { what = limits.Root; at = files.next_file; need = 1 }) else full_roots files

-- The chunk is of the shape that the history has by now, and there are numbers for its files and its root.
pub record HasRoom (base : Base) (line : LineValue) (files : Files) (new : NewChunkValue) : Type 0 where
  pub shape : shape_of base line ≡ new.from.shape
  pub numbers : full_root files ≡ None

-- what the end of a job says and leaves behind a line in which nothing waits: once the root was replaced, no state is in doubt.
-- Where the job is in doubt, the token keeps the steps with it; what it had left so before is of one line with them.
abbrev pub EndsJob : {J : Type 0} → Base → LineValue → Files → TokenValue → NewChunkValue → ℕ → Result FrontValue (InstallFault J) → LineValue → Files → TokenValue → ℕ → Type 0
EndsJob base line files token new before (Ok note) next kept after now =
    HasRoom base line files new × (next ≡ settled (record line { waiting = Some (end_of base line new) })) × (note ≡ front_of next) × Learns token after token.made next.history × (before ≤ now) × (kept.sure ≡ true)
EndsJob base line files token new before (Err faults.NoMemory) next kept after now = IsSame line token before next after now
EndsJob base line files token new before (Err (faults.Strayed strayed note)) next kept after now = ⊥
EndsJob base line files token new before (Err (faults.Overtaken shape note)) next kept after now = IsSame line token before next after now × (shape ≡ shape_of base line) × (new.from.shape < shape) × (note ≡ front_of line)
EndsJob base line files token new before (Err (faults.Full full)) next kept after now = IsSame line token before next after now × (shape_of base line ≡ new.from.shape) × (full_root files ≡ Some full)
EndsJob base line files token new before (Err faults.DiskFault) next kept after now = IsSame line token before next after now × Rose before now
EndsJob base line files token new before (Err faults.InDoubt) next kept after now = HasRoom base line files new × (next ≡ record line { waiting = Some (end_of base line new) }) × (after ≡ record token { entered = Some (line.history ++ end_of base line new ∷ []) }) × Agrees token.entered (line.history ++ end_of base line new ∷ []) × (before ≤ now) × (kept.sure ≡ true)

-- The token contradicts the keeper, and nothing was done. The answer has a note of the history that it contradicts.
pub record IsStrayJob {J : Type 0} (base : Base) (line : LineValue) (token : TokenValue) (before : ℕ) (result : Result FrontValue (InstallFault J)) (next : LineValue) (after : TokenValue) (now : ℕ) : Type 0 where
  pub numbers : Strayed
  pub strays : stray_of base line token ≡ Some numbers
  pub note : FrontValue
  pub note_is : note ≡ front_of line
  pub answer : result ≡ Err (faults.Strayed numbers note)
  pub same : IsSame line token before next after now

-- What waits couldn't be settled.
pub record IsUnsettledJob {J : Type 0} (base : Base) (line : LineValue) (token : TokenValue) (before : ℕ) (result : Result FrontValue (InstallFault J)) (next : LineValue) (after : TokenValue) (now : ℕ) : Type 0 where
  pub none : stray_of base line token ≡ None
  pub answer : (result ≡ Err faults.NoMemory) ⊎ ((result ≡ Err faults.DiskFault) × Rose before now × (line.waiting ≢ None))
  pub line_is : next ≡ line
  pub learns : Learns token after token.made line.history
  pub later : before ≤ now

-- What waited was settled, and then the job ended so.
pub record IsAfterJob {J : Type 0} (base : Base) (line : LineValue) (files : Files) (token : TokenValue) (new : NewChunkValue) (before : ℕ) (result : Result FrontValue (InstallFault J)) (next : LineValue) (kept : Files) (after : TokenValue) (now : ℕ) : Type 0 where
  pub none : stray_of base line token ≡ None
  pub taught : TokenValue
  pub between : ℕ
  pub later : before ≤ between
  pub learns : Learns token taught token.made (entered line)
  pub ends : EndsJob {J = J} base (settled line) files taught new between result next kept after now

-- what installing a chunk says and leaves, but for how its answer is charged
abbrev pub Installs : {J : Type 0} → Base → LineValue → Files → TokenValue → NewChunkValue → ℕ → Result FrontValue (InstallFault J) → LineValue → Files → TokenValue → ℕ → Type 0
Installs {J} base line files token new before result next kept after now =
    IsStrayJob {J = J} base line token before result next after now ⊎ (IsUnsettledJob {J = J} base line token before result next after now ⊎ IsAfterJob {J = J} base line files token new before result next kept after now)

-- the contradiction that is held after an answer: the first one
abbrev pub strayed_after_job : {J : Type 0} → Option Strayed → Result FrontValue (InstallFault J) → Option Strayed
strayed_after_job held (Ok note) = held
strayed_after_job held (Err faults.NoMemory) = held
strayed_after_job held (Err (faults.Strayed strayed note)) = option_or held (Some strayed)
strayed_after_job held (Err (faults.Overtaken shape note)) = held
strayed_after_job held (Err (faults.Full full)) = held
strayed_after_job held (Err faults.DiskFault) = held
strayed_after_job held (Err faults.InDoubt) = held
