-- Closings: what the end of an engine says of the disk and of the tokens.
use Rattle.std.specs.Prelude.{◌≡◌, ◌⊎◌, ◌==◌, ℕ, ◌+◌, ◌≤◌, List, [], All, map, sum_by, Some, Result, Ok, Err}
use Rattle.std.specs.List.{AllZip, Contains, IsDistinct}
use Rattle.srch_base.specs.declared.faults.Or.{Or}
use Rattle.srch_base.specs.declared.faults.Or.TheVariants as causes
use Rattle.chunk_store.specs.Images.{Image}
use Rattle.chunk_store.specs.declared.disk.Disk.{Ghosts as DiskWords}
use Rattle.commit_outcomes.specs.declared.strayed.Strayed.{Strayed}
use Rattle.doc_types.specs.declared.schema.Schema.{Schema}
use Rattle.step_book.specs.Fronts.{FrontValue}
use Rattle.step_book.specs.Tellings.{AtOpening}
use Rattle.step_history.specs.History.{Base, Step}
use Rattle.step_line.specs.Lines.{IsLine, LineValue}
use Rattle.step_tokens.specs.Tokens.{Agrees, AreOnOneLine, TokenValue, faults_of, stops_of}
use Rattle.store_steps.specs.Kept.{GivesEither, IsKept}
use Rattle.store_steps.specs.declared.files.Files.{Files}
use Rattle.store_keep.specs.Charges.{HasEnded, IsAtEnd}
use Rattle.store_keep.specs.Commits.{front_of}
use Rattle.store_keep.specs.Tellings.{HasSeenAll, IsTold, first_stray}

-- Whatever a crash leaves of the disk gives the documents after the history of a line, or after that and the step that waits.
abbrev pub Keeps : {D : Type 0} → DiskWords D → Schema → Base → D → LineValue → Type 0
Keeps words schema base disk line = (x : Image) → words.may_leave disk x → GivesEither schema base line.history line.waiting x

-- by what some keeper knows of its files the disk keeps the steps of the line, and the one that waits
abbrev pub HasKept : {D : Type 0} → DiskWords D → Schema → Base → D → LineValue → Type 0
HasKept words schema base disk line = (files : Files) × IsKept words schema base line.history line.waiting disk files

-- The line is one of the index and of so many workers, and the disk keeps it: the files hold its history, and the step that waits as
-- it does.
pub record IsLeft {D : Type 0} (words : DiskWords D) (schema : Schema) (base : Base) (index workers : ℕ) (disk : D) (line : LineValue) : Type 0 where
  pub index_is : line.index ≡ index
  pub workers_are : line.workers ≡ workers
  pub is : IsLine schema base line
  pub gives : Keeps words schema base disk line
  pub kept : HasKept words schema base disk line

-- What the token had seen is of one line with these steps, and so are the steps that it left in doubt.
pub record IsOnLine (steps : List Step) (token : TokenValue) : Type 0 where
  pub seen : AreOnOneLine token.seen steps
  pub entered : Agrees token.entered steps

-- no two of the tokens are of one worker
abbrev pub WorkersDiffer : List TokenValue → Type 0
WorkersDiffer tokens = IsDistinct (λ (one other : ℕ). one == other) (map (λ token. token.worker) tokens)

-- All faults that the tokens count are together no more than the disk's count rose by since opening; or it stands at its end.
abbrev pub SharesFit : AtOpening → List TokenValue → ℕ → Type 0
SharesFit opened tokens now = (opened.faults + sum_by faults_of tokens ≤ now) ⊎ IsAtEnd now

-- the token counts a stop only where numbers may have ended
abbrev pub IsStoppedByNumbers : AtOpening → LineValue → ℕ → TokenValue → Type 0
IsStoppedByNumbers opened line now token = (stops_of token ≡ 0) ⊎ HasEnded opened line.history now

-- A worker was told these numbers by a call; or they are those of the first token that contradicts the line.
abbrev pub Strays : Base → LineValue → List Strayed → List TokenValue → Strayed → Type 0
Strays base line told tokens numbers = Contains told numbers ⊎ (first_stray base line tokens ≡ Some numbers)

-- What the end leaves, whatever it says: the disk keeps a line of the index, and the note is of its history. The faults that the tokens
-- count fit the disk's count. Each token had seen a beginning of the note's history, or one that goes beyond it, and has seen the longer
-- of the two then.
pub record IsEnd {D : Type 0} (words : DiskWords D) (schema : Schema) (base : Base) (opened : AtOpening) (index workers : ℕ) (old : List TokenValue) (disk : D) (note : FrontValue) (line : LineValue) (new : List TokenValue) : Type 0 where
  pub left : IsLeft words schema base index workers disk line
  pub note_is : note ≡ front_of line
  pub shares : SharesFit opened old (words.faults disk)
  pub fronts : All (IsOnLine note.steps) old
  pub taught : AllZip (IsTold note) old new

-- What the end says. Where all is well, no worker was told a contradiction, each token has seen exactly the whole history, and counts
-- stops only where numbers may have ended. Where memory was refused, no token contradicts the line.
abbrev pub Says : Base → AtOpening → List Strayed → List TokenValue → LineValue → ℕ → Result (Unit {0}) (Or Strayed) → List TokenValue → Type 0
Says base opened told old line now (Ok done) new = (told ≡ []) × AllZip (HasSeenAll line) old new × All (IsStoppedByNumbers opened line now) old
Says base opened told old line now (Err (causes.Fault numbers)) new = Strays base line told old numbers
Says base opened told old line now (Err causes.NoMemory) new = AllZip (HasSeenAll line) old new

-- What the end leaves and says, by the first contradiction that a call told each worker, where one did.
abbrev pub Closes : {D : Type 0} → DiskWords D → (ℕ → Schema) → (ℕ → Base) → (ℕ → AtOpening) → ℕ → ℕ → List Strayed → List TokenValue → D → FrontValue → Result (Unit {0}) (Or Strayed) → List TokenValue → Type 0
Closes words schema base opened index workers told old disk note result new =
    (line : LineValue) × IsEnd words (schema index) (base index) (opened index) index workers old disk note line new × Says (base index) (opened index) told old line (words.faults disk) result new
