-- Endings of jobs: what each of their parts says.
use Rattle.std.specs.Prelude.{◌≡◌, ℕ, ◌≤◌, ◌<◌, ◌^◌, Option, Some, None, Result, Ok, Err}
use Rattle.std.specs.Arc.{arc_value}
use Rattle.doc_types.specs.declared.schema.Schema.{Schema}
use Rattle.job_chunks.specs.Chunks.{NewChunkValue}
use Rattle.step_book.specs.Fronts.{FrontValue}
use Rattle.step_history.specs.History.{Base}
use Rattle.step_line.specs.Lines.{LineValue, MayFollow, entered, settled}
use Rattle.step_tokens.specs.Tokens.{Agrees, TokenValue}
use Rattle.store_steps.specs.declared.files.Files.{Files}
use Rattle.store_keep.specs.Commits.{Learns, front_of}
use Rattle.store_keep.specs.Installs.{HasRoom, end_of, full_root, installed, shape_of}
use Rattle.store_keep.specs.declared.job_ends.PreparedEnd.{PreparedEnd}
use Rattle.store_keep.specs.declared.install_fault.InstallFault.{InstallFault}
use Rattle.store_keep.specs.declared.install_fault.InstallFault.TheVariants as faults

-- whether a job is refused before anything is made for it, and why
abbrev pub JobRefused : {J : Type 0} → Base → LineValue → Files → NewChunkValue → Option (InstallFault J) → Type 0
JobRefused base line files new None = HasRoom base line files new
JobRefused base line files new (Some (faults.Overtaken shape note)) = (shape ≡ shape_of base line) × (new.from.shape < shape) × (note ≡ front_of line)
JobRefused base line files new (Some (faults.Full full)) = (shape_of base line ≡ new.from.shape) × (full_root files ≡ Some full)
JobRefused base line files new (Some fault) = ⊥

-- The snapshot is the one with the chunk in its place, and the end of the job may be published behind the line.
pub record IsEndPrepared (schema : Schema) (base : Base) (line : LineValue) (new : NewChunkValue) (prepared : PreparedEnd) : Type 0 where
  pub next : arc_value prepared.next ≡ installed base line new
  pub may : MayFollow schema base line.history (end_of base line new)
  pub number : new.from.number < 2 ^ 63

-- what is said and left where the step that waits is the end of a job that was just written
abbrev pub FinishesJob : {J : Type 0} → LineValue → TokenValue → ℕ → Result FrontValue (InstallFault J) → LineValue → TokenValue → ℕ → Type 0
FinishesJob line token before (Ok note) next after now = (next ≡ settled line) × (note ≡ front_of next) × Learns token after token.made next.history × (before ≤ now)
FinishesJob line token before (Err faults.InDoubt) next after now = (next ≡ line) × (after ≡ record token { entered = Some (entered line) }) × Agrees token.entered (entered line) × (before ≤ now)
FinishesJob line token before (Err fault) next after now = ⊥
