-- Workers: what the engines of all indexes are to the sessions of one worker. What others do meanwhile is no part of it: it shows
-- once a token finds it.
use Rattle.std.specs.Prelude.{◌≡◌, ℕ, List, Option, Some, slice_get, slice_set}
use Rattle.std.specs.List.{AllZip}
use Rattle.std.specs.Option.{option_or}
use mathlib.Core.List.{IsPrefix}
use Rattle.commit_outcomes.specs.declared.outcome.CommitOutcome.{CommitOutcome}
use Rattle.commit_outcomes.specs.declared.strayed.Strayed.{Strayed}
use Rattle.doc_types.specs.declared.schema.Schema.{Schema}
use Rattle.doc_types.specs.Snapshots.{AreLayers, SnapshotValue}
use Rattle.doc_types.specs.declared.transactions.TxnOp.{TxnOp}
use Rattle.index_conf.specs.declared.conf.IndexConf.{IndexConf}
use Rattle.step_book.specs.Fronts.{FrontValue}
use Rattle.step_history.specs.History.{Base, IsGood, last_snapshot}
use Rattle.step_tokens.specs.Tokens.{TokenValue}
use Rattle.snap_share.specs.Answers.{seen_by}
use Rattle.snap_share.specs.Counts.{Shares}
use Rattle.ql_session.specs.Events.{StoreWords}
use Rattle.ql_answers.specs.declared.job_outcome.JobOutcome.{JobOutcome}
use Rattle.step_history.specs.declared.job.Job.{Job}
use Rattle.engine_tables.specs.Outcomes.{Tells, TellsJob, charge_by, charge_by_job, numbers_of, numbers_of_job}
use Rattle.engine_tables.specs.Tokens.{TokensValue}

-- The indexes as they are configured, and the worker's tokens of them.
pub record WorkerValue : Type 0 where
  pub confs : List IndexConf
  pub tokens : TokensValue

-- the documents after a front: those of its index at opening, with all of its steps
abbrev pub documents_of : (ℕ → Base) → FrontValue → SnapshotValue
documents_of base front = last_snapshot (base front.index) front.steps

-- The token has seen what it had seen, or a history that goes on from there. Nothing else of it changed.
pub record Grows (old new : TokenValue) : Type 0 where
  pub is : new ≡ record old { seen = new.seen }
  pub seen : IsPrefix old.seen new.seen

-- all tokens of a worker, which was told nothing more
abbrev pub GrowAll : TokensValue → TokensValue → Type 0
GrowAll old new = (new.worker ≡ old.worker) × AllZip Grows old.list new.list × (new.told ≡ old.told)

-- The front is what the worker has seen of the index at this place. It is a good history, after which no id lives twice.
pub record HasSeen (schema : ℕ → Schema) (base : ℕ → Base) (tokens : TokensValue) (place : ℕ) (front : FrontValue) : Type 0 where
  pub token : TokenValue
  pub at : slice_get tokens.list place ≡ Some token
  pub is : front ≡ seen_by token
  pub of : front.index ≡ place
  pub good : IsGood (schema place) (base place) front.steps
  pub layers : AreLayers (documents_of base front).layers

-- These operations were to be committed to the index at this place by the worker's token of it. The outcome says what became of them
-- over the front, which is what the token has seen then, a good history; the token counts a fault or a stop where the outcome is one. The
-- other tokens are as they were. Where it is the first contradiction that the worker was told of the index, it is kept.
pub record CommitsBy (schema : ℕ → Schema) (base : ℕ → Base) (old : TokensValue) (place : ℕ) (ops : List TxnOp) (outcome : CommitOutcome) (front : FrontValue) (new : TokensValue) : Type 0 where
  pub before : TokenValue
  pub after : TokenValue
  pub at : slice_get old.list place ≡ Some before
  pub own : before.worker ≡ old.worker
  pub had : Option Strayed
  pub told : slice_get old.told place ≡ Some had
  pub left : new ≡ record old { list = slice_set old.list place after; told = slice_set old.told place (option_or had (numbers_of outcome)) }
  pub is : front ≡ seen_by after
  pub of : front.index ≡ place
  pub good : IsGood (schema place) (base place) front.steps
  pub tells : Tells (schema place) (base place) before ops outcome after
  pub shares : Shares (charge_by outcome) before after

-- The worker did this job over the index at this place, begun over its own front, which is all that its token had seen of the index.
-- The outcome says what became of it over the front that the token has seen then, a good history; the token counts a fault or a stop
-- where the outcome is one. The other tokens are as they were. Where it is the first contradiction that the worker was told of the
-- index, it is kept.
pub record ReshapesBy (schema : ℕ → Schema) (base : ℕ → Base) (old : TokensValue) (place : ℕ) (job : Job) (outcome : JobOutcome) (own front : FrontValue) (new : TokensValue) : Type 0 where
  pub before : TokenValue
  pub after : TokenValue
  pub at : slice_get old.list place ≡ Some before
  pub began : own ≡ seen_by before
  pub had : Option Strayed
  pub told : slice_get old.told place ≡ Some had
  pub left : new ≡ record old { list = slice_set old.list place after; told = slice_set old.told place (option_or had (numbers_of_job outcome)) }
  pub is : front ≡ seen_by after
  pub of : front.index ≡ place
  pub good : IsGood (schema place) (base place) front.steps
  pub tells : TellsJob (schema place) (base place) before job outcome after
  pub shares : Shares (charge_by_job outcome) before after

-- A worker's engines as a store: a front is a history that its token has seen.
abbrev pub by_tokens : (ℕ → Schema) → (ℕ → Base) → StoreWords WorkerValue FrontValue
by_tokens schema base = record {
  documents = documents_of base;
  settles = λ old new. (new.confs ≡ old.confs) × GrowAll old.tokens new.tokens;
  has = λ worker. HasSeen schema base worker.tokens;
  commits = λ old place ops outcome front new. (new.confs ≡ old.confs) × CommitsBy schema base old.tokens place ops outcome front new.tokens;
  reshapes = λ old place job outcome own front new. (new.confs ≡ old.confs) × ReshapesBy schema base old.tokens place job outcome own front new.tokens;
}
