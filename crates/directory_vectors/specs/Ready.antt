-- A keeper with which commits can be made and jobs be ended, by workers with its tokens.
use Rattle.std.specs.Prelude.{◌≡◌, ℕ, ◌<◌, ◌≤◌, [], false, Option, IfSome}
use Rattle.chunk_store.specs.declared.disk.Disk.{Ghosts as DiskWords}
use Rattle.doc_types.specs.declared.schema.Schema.{Schema}
use Rattle.doc_types.specs.Schemas.{IsSchema}
use Rattle.doc_types.specs.Transactions.{IsTxnOf}
use Rattle.job_chunks.specs.Chunks.{IsNewChunk, NewChunkValue}
use Rattle.job_states.specs.States.{HasSeen}
use Rattle.step_book.specs.Tellings.{AtOpening}
use Rattle.step_history.specs.History.{Base}
use Rattle.step_tokens.specs.Tokens.{TokenValue}
use Rattle.store_keep.specs.Keepers.{IsSound}
use Rattle.store_keep.specs.declared.keeper.Keeper.{Keeper}
use Rattle.directory_vectors.specs.declared.step.Step.{Step}
use Rattle.directory_vectors.specs.declared.step.Step.TheVariants as steps

-- the columns of an index without any
abbrev pub plain : Schema
plain = record { name = []; fields = []; attrs = []; zones = []; sp = false; min_prefix = 0 }

-- how many workers there are: one commits, and two have a job each
abbrev pub workers : ℕ
workers = 3

-- The step can be made in an index of these columns.
abbrev pub IsStepOf : Schema → Step → Type 0
IsStepOf schema (steps.Commit txn) = IsTxnOf schema txn
IsStepOf schema (steps.Job job) = Unit {0}
IsStepOf schema (steps.Begin second job) = Unit {0}
IsStepOf schema (steps.End second) = Unit {0}

pub record IsReady {D J : Type 0} (words : DiskWords D) (schema : ℕ → Schema) (base : ℕ → Base) (opened : ℕ → AtOpening) (keeper : Keeper D J) : Type 0 where
  pub sound : IsSound words schema base opened keeper
  pub columns : IsSchema (schema 0)
  pub index : keeper.kept.line.index ≡ 0
  pub among : keeper.kept.line.workers ≡ workers

-- The token is one of the workers'.
pub record IsOwn (token : TokenValue) : Type 0 where
  pub index : token.index ≡ 0
  pub some : 0 < token.worker
  pub among : token.worker ≤ workers

-- The token has seen where the job began that made the chunk.
pub record IsOfJob (schema : Schema) (base : Base) (token : TokenValue) (new : NewChunkValue) : Type 0 where
  pub seen : HasSeen base token.seen new.from
  pub chunk : IsNewChunk schema new

-- The token can end the job that it began, if it did.
pub record IsSeat (schema : Schema) (base : Base) (token : TokenValue) (new : Option NewChunkValue) : Type 0 where
  pub own : IsOwn token
  pub begun : IfSome new (IsOfJob schema base token)
