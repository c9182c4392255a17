-- Who uses an engine of an index without columns.
use Rattle.std.specs.Prelude.{◌≡◌, ℕ, ◌<◌, ◌≤◌, [], false}
use Rattle.doc_types.specs.declared.schema.Schema.{Schema}
use Rattle.job_chunks.specs.Chunks.{IsNewChunk, NewChunkValue}
use Rattle.job_states.specs.States.{HasSeen}
use Rattle.step_history.specs.History.{Base}
use Rattle.snap_share.specs.Tokens.{TokenValue}
use Rattle.snap_share.specs.Engines.{EngineValue}
use Rattle.step_line.specs.Tallies.{TallyValue}

abbrev pub plain : Schema
plain = record { name = []; fields = []; attrs = []; zones = []; sp = false; min_prefix = 0 }

-- The token is one of the engine's, and the index has no columns.
pub record IsUser (schema : ℕ → Schema) (engine : EngineValue) (token : TokenValue) : Type 0 where
  pub columns : schema engine.index ≡ plain
  pub index : token.index ≡ engine.index
  pub worker : 0 < token.worker
  pub known : token.worker ≤ engine.workers

-- The token has seen where the job began that made the chunk.
pub record IsJobOf (base : Base) (token : TokenValue) (new : NewChunkValue) : Type 0 where
  pub seen : HasSeen base token.seen new.from
  pub chunk : IsNewChunk plain new

-- The lines of calls and the token are of one index, which has three workers, and the token is the first one's.
pub record AreOfFirst (faults stops : TallyValue) (token : TokenValue) : Type 0 where
  pub faults_index : faults.index ≡ token.index
  pub stops_index : stops.index ≡ token.index
  pub faults_workers : faults.workers ≡ 3
  pub stops_workers : stops.workers ≡ 3
  pub worker : token.worker ≡ 1
