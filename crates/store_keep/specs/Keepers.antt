-- Keepers: what the keeper of an index holds.
use Rattle.std.specs.Prelude.{◌≡◌, ℕ}
use Rattle.chunk_store.specs.declared.disk.Disk.{Ghosts as DiskWords}
use Rattle.doc_types.specs.declared.schema.Schema.{Schema}
use Rattle.step_history.specs.History.{Base, place_of}
use Rattle.step_book.specs.Tellings.{AtOpening}
use Rattle.step_line.specs.Lines.{LineValue, entered}
use Rattle.step_line.specs.Tallies.{TallyValue}
use Rattle.step_tokens.specs.Tokens.{TokenValue}
use Rattle.store_steps.specs.Kept.{IsKept}
use Rattle.store_steps.specs.declared.files.Files.{Files}
use Rattle.store_keep.specs.Charges.{HaveRisen, IsBacked, MayHaveStopped}
use Rattle.store_keep.specs.declared.keeper.Keeper.{Keeper}

-- By what is known of its files, the disk keeps the steps of a line, and the one that waits.
abbrev pub Keeps : {D : Type 0} → DiskWords D → (ℕ → Schema) → (ℕ → Base) → D → Files → LineValue → Type 0
Keeps words schema base disk files line = IsKept words (schema line.index) (base line.index) line.history line.waiting disk files

-- the line of calls is of the index of a line of steps, and of its workers
abbrev pub IsTallyOf : LineValue → TallyValue → Type 0
IsTallyOf line tally = (tally.index ≡ line.index) × (tally.workers ≡ line.workers)

-- Between calls: the disk keeps the line's steps, and the place of the snapshot at opening is known. The calls that were charged as faults
-- are backed by the disk's count, and so are the numbers of files and roots that were taken; as stops some were charged only where a
-- token contradicted the keeper, or where these numbers have ended.
pub record IsSound {D J : Type 0} (words : DiskWords D) (schema : ℕ → Schema) (base : ℕ → Base) (opened : ℕ → AtOpening) (keeper : Keeper D J) : Type 0 where
  pub kept : Keeps words schema base keeper.kept.disk keeper.kept.files keeper.kept.line
  pub first : keeper.first ≡ place_of (base keeper.kept.line.index).opening
  pub faults_of : IsTallyOf keeper.kept.line keeper.faults
  pub stops_of : IsTallyOf keeper.kept.line keeper.stops
  pub backed : IsBacked (opened keeper.kept.line.index) (words.faults keeper.kept.disk) keeper.faults.calls
  pub numbers : HaveRisen (opened keeper.kept.line.index) (entered keeper.kept.line) (words.faults keeper.kept.disk) keeper.kept.files
  pub ended : MayHaveStopped (opened keeper.kept.line.index) keeper.kept.line.history (words.faults keeper.kept.disk) keeper.strayed keeper.stops.calls

-- What no call changes: the index, its workers, and what was there at opening.
pub record IsSameKeeper {D J : Type 0} (old new : Keeper D J) : Type 0 where
  pub index : new.kept.line.index ≡ old.kept.line.index
  pub workers : new.kept.line.workers ≡ old.kept.line.workers
  pub records : new.records ≡ old.records
  pub documents : new.documents ≡ old.documents
  pub chunks : new.chunks ≡ old.chunks

-- What no call changes of a token: of which index it is, and whose.
pub record IsSameToken (old new : TokenValue) : Type 0 where
  pub index : new.index ≡ old.index
  pub worker : new.worker ≡ old.worker
