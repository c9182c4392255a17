-- What the outside does about a text or a statement, and what each event leaves, whatever holds the documents.
use Rattle.std.specs.Prelude.{◌≡◌, ℕ, List}
use Rattle.doc_types.specs.Snapshots.{SnapshotValue}
use Rattle.doc_types.specs.declared.transactions.TxnOp.{TxnOp}
use Rattle.commit_outcomes.specs.declared.outcome.CommitOutcome.{CommitOutcome}
use Rattle.index_conf.specs.declared.conf.IndexConf.{IndexConf}
use Rattle.ql_answers.specs.declared.job_outcome.JobOutcome.{JobOutcome}
use Rattle.step_history.specs.declared.job.Job.{Job}

-- What the outside did, by what it was asked for; with the place of the index that it was done to, and its front: what is seen
-- of the index then, F.
pub data Event (F : Type 0) : Type 0 where
  -- the indexes are these
  Configured : (confs : List IndexConf) → Event F
  -- nothing was asked for
  Nothing : Event F
  -- memory was refused
  NoMemory : Event F
  -- the documents of an index were read
  Read : (place : ℕ) (front : F) → Event F
  -- the operations were to be committed, and this became of it
  Commit : (place : ℕ) (ops : List TxnOp) (outcome : CommitOutcome) (front : F) → Event F
  -- the job began over its own front, and this became of it
  Reshape : (place : ℕ) (job : Job) (outcome : JobOutcome) (own front : F) → Event F

-- What a store is to sessions: its states are D, and what is seen of one of its indexes is F.
pub record StoreWords (D F : Type 0) : Type 1 where
  -- the documents of a front
  pub documents : F → SnapshotValue
  -- what earlier calls left undone may have been settled between these states
  pub settles : D → D → Type 0
  -- this is the front of the index at this place
  pub has : D → ℕ → F → Type 0
  -- these operations on the index at this place had this outcome, and led to this front and this state
  pub commits : D → ℕ → List TxnOp → CommitOutcome → F → D → Type 0
  -- this job over the index at this place, which began over this front, had this outcome, and led to this front and this state
  pub reshapes : D → ℕ → Job → JobOutcome → F → F → D → Type 0

-- The store before and after an event. A call may first settle what earlier calls left undone; then it does what it is asked, or
-- finds no memory for it.
abbrev pub Follows : {D F : Type 0} → (D → List IndexConf) → StoreWords D F → D → Event F → D → Type 0
Follows confs words old (Configured indexes) new = (indexes ≡ confs old) × (new ≡ old)
Follows confs words old Nothing new = new ≡ old
Follows confs words old NoMemory new = words.settles old new
Follows confs words old (Read place front) new = words.settles old new × words.has new place front
Follows {D} confs words old (Commit place ops outcome front) new = (mid : D) × words.settles old mid × words.commits mid place ops outcome front new
Follows {D} confs words old (Reshape place job outcome own front) new =
    (mid : D) × words.settles old mid × words.has mid place own × words.reshapes mid place job outcome own front new
