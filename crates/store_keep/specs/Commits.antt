-- Commits: what each answer says, and what it leaves.
use Rattle.std.specs.Prelude.{◌≡◌, ◌≢◌, ◌⊎◌, ℕ, ◌+◌, ◌≤◌, List, [], ◌∷◌, ◌++◌, Option, Some, None, Result, Ok, Err}
use Rattle.std.specs.Option.{option_or}
use mathlib.Core.List.{IsPrefix}
use Rattle.srch_base.specs.Counts.{Rose}
use Rattle.srch_base.specs.declared.faults.Failed.{Failed}
use Rattle.srch_base.specs.declared.faults.Or.{Or}
use Rattle.srch_base.specs.declared.faults.Or.TheVariants as causes
use Rattle.chunk_store.specs.Images.{Image}
use Rattle.commit_outcomes.specs.declared.outcome.Doubt.TheVariants as doubts
use Rattle.commit_outcomes.specs.declared.strayed.Strayed.{Strayed}
use Rattle.doc_types.specs.Commits.{Accepted, Change, Duplicate, Entry, verdict}
use Rattle.doc_types.specs.Snapshots.{SnapshotValue, live}
use Rattle.doc_types.specs.declared.schema.Schema.{Schema}
use Rattle.doc_types.specs.declared.transactions.TxnOp.{TxnOp}
use Rattle.gate_log.specs.declared.log.GateLog.{GateLog}
use Rattle.step_book.specs.Fronts.{FrontValue}
use Rattle.step_history.specs.History.{Base, Step, Commit, last_snapshot}
use Rattle.step_line.specs.Lines.{LineValue, entered, settled}
use Rattle.step_tokens.specs.Tokens.{Agrees, TokenValue}
use Rattle.store_steps.specs.Answers.{Becomes}
use Rattle.store_steps.specs.Kept.{Gives}
use Rattle.store_steps.specs.Refusals.{full_of, stray_of}
use Rattle.store_keep.specs.declared.fault.CommitFault.{CommitFault}
use Rattle.store_keep.specs.declared.fault.CommitFault.TheVariants as faults
use Rattle.store_keep.specs.declared.fault.Committed.{Committed}

-- the published history of a line
abbrev pub front_of : LineValue → FrontValue
front_of line = record { index = line.index; steps = line.history }

-- what settling says and leaves, by the counts of faults before and after: the disk has no part in it where nothing waits, and fails
-- only where a record is staged, which stays so
abbrev pub Settles : LineValue → ℕ → Result (Unit {0}) (Or Failed) → LineValue → GateLog → ℕ → Type 0
Settles old before (Ok done) new log now = (new ≡ settled old) × (log.staged ≡ None) × (before ≤ now)
Settles old before (Err causes.NoMemory) new log now = (new ≡ old) × (log.staged ≡ None) × (before ≤ now)
Settles old before (Err (causes.Fault failed)) new log now = (new ≡ old) × (before ≤ now) × Rose before now × (old.waiting ≢ None) × (log.staged ≢ None)

-- The image gives the documents before a commit that was entered behind these steps, or all that the line has.
abbrev pub GivesEntered : Schema → Base → List Step → LineValue → Image → Type 0
GivesEntered schema base steps line x = Gives schema base steps x ⊎ Gives schema base (entered line) x

-- The image gives the documents that were published before a call, or these and the step that waited then, or all that the line has
-- now.
abbrev pub GivesAny : Schema → Base → LineValue → LineValue → Image → Type 0
GivesAny schema base old new x = Gives schema base old.history x ⊎ GivesEntered schema base (entered old) new x

-- The token learnt a history: it has seen that one then, or what it had seen, where that is longer.
pub record Learns (old new : TokenValue) (made : ℕ) (steps : List Step) : Type 0 where
  pub index : new.index ≡ old.index
  pub worker : new.worker ≡ old.worker
  pub made_is : new.made ≡ made
  pub faults_are : new.faults ≡ old.faults
  pub stops_are : new.stops ≡ old.stops
  pub entered_is : new.entered ≡ old.entered
  pub one : (new.seen ≡ old.seen) ⊎ (new.seen ≡ steps)
  pub seen : IsPrefix old.seen new.seen
  pub told : IsPrefix steps new.seen

-- why a commit behind the line is refused before anything is written
abbrev pub Refuses : {J : Type 0} → Base → LineValue → List TxnOp → CommitFault J → Type 0
Refuses base line ops faults.NoMemory = Unit {0}
Refuses base line ops (faults.Strayed strayed note) = ⊥
Refuses base line ops (faults.Duplicate id note) = (verdict ops (live (last_snapshot base line.history)) ≡ Duplicate id) × (note ≡ front_of line)
Refuses base line ops (faults.Full full note) =
    ((changes : List Change) × (removed : ℕ) × (verdict ops (live (last_snapshot base line.history)) ≡ Accepted changes removed) × (full_of base line.history changes ≡ Some full)) × (note ≡ front_of line)
Refuses base line ops faults.Refused = ⊥
Refuses base line ops (faults.InDoubt doubt) = ⊥

-- What making a commit of this step says and leaves. In doubt by the disk is one whose record is staged: its gate couldn't be opened.
-- In doubt by memory is one whose record isn't, since it is on the disk for good. The token keeps the steps with the one in doubt;
-- what it had left so before is of one line with them.
abbrev pub Makes : {J : Type 0} → LineValue → TokenValue → Step → ℕ → ℕ → ℕ → Result (Committed J) (CommitFault J) → LineValue → GateLog → TokenValue → ℕ → Type 0
Makes line token step number removed before (Ok made) new log after now =
    (new ≡ settled (record line { waiting = Some step })) × (made.note ≡ front_of new) × (made.number ≡ number) × (made.removed ≡ removed) × Learns token after (token.made + 1) new.history × (before ≤ now)
Makes line token step number removed before (Err (faults.InDoubt doubts.Disk)) new log after now = (new ≡ record line { waiting = Some step }) × (after ≡ record token { made = token.made + 1; entered = Some (line.history ++ step ∷ []) }) × Agrees token.entered (line.history ++ step ∷ []) × (before ≤ now) × Rose before now × (log.staged ≢ None)
Makes line token step number removed before (Err (faults.InDoubt doubts.Memory)) new log after now = (new ≡ record line { waiting = Some step }) × (after ≡ record token { made = token.made + 1; entered = Some (line.history ++ step ∷ []) }) × Agrees token.entered (line.history ++ step ∷ []) × (before ≤ now) × (log.staged ≡ None)
Makes line token step number removed before (Err faults.Refused) new log after now = (new ≡ line) × (after ≡ token) × (before ≤ now) × Rose before now
Makes line token step number removed before (Err fault) new log after now = ⊥

-- The operations of a worker's transaction became this step behind the line, the commit of this number, and so many ids that they
-- kill were there.
pub record IsCommit (base : Base) (line : LineValue) (worker : ℕ) (ops : List TxnOp) (removed number : ℕ) (step : Step) : Type 0 where
  pub entry : Entry
  pub snapshot : SnapshotValue
  pub is : step ≡ Commit entry snapshot
  pub number_is : number ≡ entry.number
  pub becomes : Becomes base line.history worker ops entry snapshot removed

-- the operations became some step, and it was made or not
abbrev pub MakesSome : {J : Type 0} → Base → LineValue → TokenValue → ℕ → List TxnOp → ℕ → Result (Committed J) (CommitFault J) → LineValue → GateLog → TokenValue → ℕ → Type 0
MakesSome base line token worker ops before result new log after now = (removed : ℕ) × (number : ℕ) × (step : Step) × IsCommit base line worker ops removed number step × Makes line token step number removed before result new log after now

-- Nothing was done.
pub record IsSame (line : LineValue) (token : TokenValue) (before : ℕ) (new : LineValue) (after : TokenValue) (now : ℕ) : Type 0 where
  pub line_is : new ≡ line
  pub token_is : after ≡ token
  pub later : before ≤ now

-- what a commit says and leaves behind a line in which nothing waits
abbrev pub Ends : {J : Type 0} → Base → LineValue → TokenValue → ℕ → List TxnOp → ℕ → Result (Committed J) (CommitFault J) → LineValue → GateLog → TokenValue → ℕ → Type 0
Ends base line token worker ops before (Err faults.NoMemory) new log after now = IsSame line token before new after now
Ends base line token worker ops before (Err (faults.Strayed strayed note)) new log after now = ⊥
Ends {J} base line token worker ops before (Err (faults.Duplicate id note)) new log after now = IsSame line token before new after now × Refuses {J = J} base line ops (faults.Duplicate id note)
Ends {J} base line token worker ops before (Err (faults.Full full note)) new log after now = IsSame line token before new after now × Refuses {J = J} base line ops (faults.Full full note)
Ends {J} base line token worker ops before (Err faults.Refused) new log after now = MakesSome {J = J} base line token worker ops before (Err faults.Refused) new log after now
Ends {J} base line token worker ops before (Err (faults.InDoubt doubt)) new log after now = MakesSome {J = J} base line token worker ops before (Err (faults.InDoubt doubt)) new log after now
Ends {J} base line token worker ops before (Ok made) new log after now = MakesSome {J = J} base line token worker ops before (Ok made) new log after now

-- The token contradicts the keeper, and nothing was done. The answer has a note of the history that it contradicts.
pub record IsStray {J : Type 0} (base : Base) (line : LineValue) (token : TokenValue) (before : ℕ) (result : Result (Committed J) (CommitFault J)) (new : LineValue) (after : TokenValue) (now : ℕ) : Type 0 where
  pub numbers : Strayed
  pub strays : stray_of base line token ≡ Some numbers
  pub note : FrontValue
  pub note_is : note ≡ front_of line
  pub answer : result ≡ Err (faults.Strayed numbers note)
  pub same : IsSame line token before new after now

-- What waits couldn't be settled.
pub record IsUnsettled {J : Type 0} (base : Base) (line : LineValue) (token : TokenValue) (before : ℕ) (result : Result (Committed J) (CommitFault J)) (new : LineValue) (after : TokenValue) (now : ℕ) : Type 0 where
  pub none : stray_of base line token ≡ None
  pub answer : (result ≡ Err faults.NoMemory) ⊎ ((result ≡ Err faults.Refused) × Rose before now × (line.waiting ≢ None))
  pub line_is : new ≡ line
  pub learns : Learns token after token.made line.history
  pub later : before ≤ now

-- What waited was settled, and then the commit ended so.
pub record IsAfter {J : Type 0} (base : Base) (line : LineValue) (token : TokenValue) (worker : ℕ) (ops : List TxnOp) (before : ℕ) (result : Result (Committed J) (CommitFault J)) (new : LineValue) (log : GateLog) (after : TokenValue) (now : ℕ) : Type 0 where
  pub none : stray_of base line token ≡ None
  pub taught : TokenValue
  pub between : ℕ
  pub later : before ≤ between
  pub learns : Learns token taught token.made (entered line)
  pub ends : Ends base (settled line) taught worker ops between result new log after now

-- what a commit says and leaves, but for how its answer is charged
abbrev pub Commits : {J : Type 0} → Base → LineValue → TokenValue → ℕ → List TxnOp → ℕ → Result (Committed J) (CommitFault J) → LineValue → GateLog → TokenValue → ℕ → Type 0
Commits {J} base line token worker ops before result new log after now =
    IsStray {J = J} base line token before result new after now ⊎ (IsUnsettled {J = J} base line token before result new after now ⊎ IsAfter {J = J} base line token worker ops before result new log after now)

-- the contradiction that is held after an answer: the first one
abbrev pub strayed_after : {J : Type 0} → Option Strayed → Result (Committed J) (CommitFault J) → Option Strayed
strayed_after held (Ok made) = held
strayed_after held (Err faults.NoMemory) = held
strayed_after held (Err (faults.Strayed strayed note)) = option_or held (Some strayed)
strayed_after held (Err (faults.Duplicate id note)) = held
strayed_after held (Err (faults.Full full note)) = held
strayed_after held (Err faults.Refused) = held
strayed_after held (Err (faults.InDoubt doubt)) = held
