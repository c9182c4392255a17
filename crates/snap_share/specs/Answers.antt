-- Answers: what a commit through an engine says, by what its token has seen then.
use Rattle.std.specs.Prelude.{◌≡◌, ℕ, ◌+◌, List, [], ◌∷◌, ◌++◌, Option, Some, Result, Ok, Err}
use mathlib.Core.List.{IsPrefix}
use Rattle.commit_outcomes.specs.declared.outcome.Full.{Full}
use Rattle.commit_outcomes.specs.declared.strayed.Strayed.{Strayed}
use Rattle.doc_types.specs.Commits.{Accepted, Change, Duplicate, Entry, verdict}
use Rattle.doc_types.specs.Snapshots.{SnapshotValue, live}
use Rattle.doc_types.specs.declared.schema.Schema.{Schema}
use Rattle.doc_types.specs.declared.transactions.TxnOp.{TxnOp}
use Rattle.step_book.specs.Fronts.{FrontValue}
use Rattle.step_history.specs.History.{Base, Step, Commit, IsGood, last_snapshot, made_by}
use Rattle.step_line.specs.Lines.{LineValue}
use Rattle.step_tokens.specs.Tokens.{LeavesInDoubt, TokenValue}
use Rattle.store_steps.specs.Answers.{Becomes}
use Rattle.store_steps.specs.Refusals.{full_of, stray_of}
use Rattle.store_keep.specs.Commits.{front_of}
use Rattle.store_keep.specs.declared.fault.CommitFault.{CommitFault}
use Rattle.store_keep.specs.declared.fault.CommitFault.TheVariants as faults
use Rattle.store_keep.specs.declared.fault.Committed.{Committed}

-- what a token has seen, as a note of it has it
abbrev pub seen_by : TokenValue → FrontValue
seen_by token = record { index = token.index; steps = token.seen }

-- The token was used: it counts so many commits, these are the steps that it left in doubt last, and it has seen a good history, which
-- begins with all that it had seen. What shares it has is said apart.
pub record Advances (schema : Schema) (base : Base) (old new : TokenValue) (made : ℕ) (entered : Option (List Step)) : Type 0 where
  pub is : new ≡ record old { seen = new.seen; made = made; faults = new.faults; stops = new.stops; entered = entered }
  pub seen : IsPrefix old.seen new.seen
  pub good : IsGood schema base new.seen

-- The note is of all that the token has seen. As many entries of that are its worker's as the token counts.
pub record IsNoteOf (token : TokenValue) (note : FrontValue) : Type 0 where
  pub is : note ≡ seen_by token
  pub counts : made_by token.worker token.seen ≡ token.made

-- The commit is the last step of what the token has seen, and its worker's next one: what stands before it begins with all that the
-- token had seen, and the transaction was accepted there.
pub record IsAcknowledged {J : Type 0} (base : Base) (old : TokenValue) (ops : List TxnOp) (made : Committed J) (new : TokenValue) : Type 0 where
  pub earlier : List Step
  pub entry : Entry
  pub snapshot : SnapshotValue
  pub last : new.seen ≡ earlier ++ Commit entry snapshot ∷ []
  pub before : IsPrefix old.seen earlier
  pub becomes : Becomes base earlier old.worker ops entry snapshot made.removed
  pub number : made.number ≡ entry.number
  pub seq : entry.seq ≡ new.made

-- The commit waits behind what the token has seen, where the transaction was accepted. It is the one commit that the token counts
-- beyond that, and its step stands in the index's book: the token keeps the steps with it, and what it had left in doubt before is of
-- one line with them.
pub record IsInDoubt (base : Base) (ops : List TxnOp) (old new : TokenValue) : Type 0 where
  pub entry : Entry
  pub snapshot : SnapshotValue
  pub removed : ℕ
  pub becomes : Becomes base new.seen new.worker ops entry snapshot removed
  pub seq : entry.seq ≡ new.made
  pub counts : made_by new.worker new.seen + 1 ≡ new.made
  pub leaves : LeavesInDoubt old new (new.seen ++ Commit entry snapshot ∷ [])

-- The transaction was accepted, but for a limit that it would pass, the first such limit.
pub record IsOverLimit (base : Base) (ops : List TxnOp) (full : Full) (new : TokenValue) : Type 0 where
  pub changes : List Change
  pub removed : ℕ
  pub verdict : verdict ops (live (last_snapshot base new.seen)) ≡ Accepted changes removed
  pub over : full_of base new.seen changes ≡ Some full

-- The token and a line of the index contradict each other, by these numbers. The note is of that line's history.
pub record Contradicts (base : Base) (token : TokenValue) (numbers : Strayed) (note : FrontValue) : Type 0 where
  pub line : LineValue
  pub note_is : note ≡ front_of line
  pub of : note.index ≡ token.index
  pub strays : stray_of base line token ≡ Some numbers

-- nothing of the token changed but its shares
abbrev pub Stays : TokenValue → TokenValue → Type 0
Stays old new = new ≡ record old { faults = new.faults; stops = new.stops }

-- what a commit of these operations says, and what its token is then, but for its shares
abbrev pub Answers : {J : Type 0} → Schema → Base → TokenValue → List TxnOp → Result (Committed J) (CommitFault J) → TokenValue → Type 0
Answers {J} schema base old ops (Ok made) new = Advances schema base old new (old.made + 1) old.entered × IsNoteOf new made.note × IsAcknowledged {J = J} base old ops made new
Answers schema base old ops (Err faults.NoMemory) new = Advances schema base old new old.made old.entered
Answers schema base old ops (Err (faults.Strayed numbers note)) new = Stays old new × Contradicts base old numbers note
Answers schema base old ops (Err (faults.Duplicate id note)) new =
    Advances schema base old new old.made old.entered × IsNoteOf new note × (verdict ops (live (last_snapshot base new.seen)) ≡ Duplicate id)
Answers schema base old ops (Err (faults.Full full note)) new = Advances schema base old new old.made old.entered × IsNoteOf new note × IsOverLimit base ops full new
Answers schema base old ops (Err faults.Refused) new = Advances schema base old new old.made old.entered
Answers schema base old ops (Err (faults.InDoubt doubt)) new = Advances schema base old new (old.made + 1) new.entered × IsInDoubt base ops old new
