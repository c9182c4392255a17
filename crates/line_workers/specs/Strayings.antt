-- Strayings: what it rests on that the history of an index strayed.
use Rattle.std.specs.Prelude.{◌≡◌, ◌⊎◌, ⊤, ℕ, List, Option, Some, None, All, Result, Ok, Err, slice_get}
use Rattle.chunk_store.specs.declared.disk.Disk.{Ghosts as DiskWords}
use Rattle.commit_outcomes.specs.declared.strayed.Strayed.{Strayed}
use Rattle.doc_types.specs.declared.schema.Schema.{Schema}
use Rattle.ql_session.specs.Events.{Event}
use Rattle.snap_share.specs.Closings.{IsLeft}
use Rattle.srch_base.specs.declared.faults.Or.{Or}
use Rattle.srch_base.specs.declared.faults.Or.TheVariants as causes
use Rattle.step_book.specs.Fronts.{FrontValue}
use Rattle.step_history.specs.History.{Base}
use Rattle.step_line.specs.Lines.{LineValue}
use Rattle.step_tokens.specs.Tokens.{TokenValue}
use Rattle.store_keep.specs.Commits.{front_of}
use Rattle.store_keep.specs.Tellings.{first_stray}
use Rattle.line_workers.specs.Attempts.{told_by}

-- The lines of some worker were told these numbers of the index, by the first of its commits and jobs that was told any.
pub record IsTold (index : ℕ) (numbers : Strayed) (events : List (List (Event FrontValue))) : Type 0 where
  pub place : ℕ
  pub own : List (Event FrontValue)
  pub at : slice_get events place ≡ Some own
  pub told : told_by index own ≡ Some numbers

-- no line was told of the index that its history strayed
abbrev pub NoneTold : ℕ → List (List (Event FrontValue)) → Type 0
NoneTold index events = All (λ own. told_by index own ≡ None) events

-- These are the numbers by which the first of these tokens that contradicts a history does. The disk keeps that history, and the note
-- is of it.
pub record IsFoundLast {D : Type 0} (disk : DiskWords D) (schema : Schema) (base : Base) (index workers : ℕ) (tokens : List TokenValue) (left : D) (note : Option FrontValue) (numbers : Strayed) : Type 0 where
  pub line : LineValue
  pub kept : IsLeft disk schema base index workers left line
  pub told : note ≡ Some (front_of line)
  pub first : first_stray base line tokens ≡ Some numbers

-- What an index rests on that ended so, by the tokens that its workers left and the events of their lines. Its history strayed where
-- a line was told so, by these numbers, or where a token contradicts the history that its disk keeps. Where all is well, no line was
-- told so.
abbrev pub RestsOn : {D : Type 0} → DiskWords D → Schema → Base → ℕ → ℕ → List TokenValue → List (List (Event FrontValue)) → D → Option FrontValue → Result (Unit {0}) (Or Strayed) → Type 0
RestsOn disk schema base index workers tokens events left last (Ok done) = NoneTold index events
RestsOn disk schema base index workers tokens events left last (Err (causes.Fault numbers)) = IsTold index numbers events ⊎ IsFoundLast disk schema base index workers tokens left last numbers
RestsOn disk schema base index workers tokens events left last (Err causes.NoMemory) = ⊤

-- the history of an index that ended so didn't stray
abbrev pub IsUnstrayed : Result (Unit {0}) (Or Strayed) → Type 0
IsUnstrayed (Ok done) = ⊤
IsUnstrayed (Err (causes.Fault numbers)) = ⊥
IsUnstrayed (Err causes.NoMemory) = ⊤
