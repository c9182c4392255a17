-- Engines: the indexes of a configuration, each with what stands outside of its engine's lock.
use Rattle.std.specs.Prelude.{◌≡◌, ℕ, List, length, map, Some, slice_get}
use Rattle.std.specs.Arc.{arc_value}
use Rattle.std.specs.List.{enumerate_from}
use Rattle.index_conf.specs.declared.conf.IndexConf.{IndexConf}
use Rattle.step_history.specs.Places.{disk_chunks}
use Rattle.store_keep.specs.declared.opening.Opened.{Opened}
use Rattle.snap_share.specs.Engines.{EngineValue}

-- An index as it is configured, and its engine.
pub record TableValue : Type 0 where
  pub conf : IndexConf
  pub engine : EngineValue

-- The indexes as they are configured, the engine of each, in the same order, and for how many workers they are.
pub record EnginesValue : Type 0 where
  pub confs : List IndexConf
  pub engines : List EngineValue
  pub workers : ℕ

-- the engine of the index at a place, over a store that was opened
abbrev pub engine_over : {D : Type 0} → ℕ → ℕ → Opened D → EngineValue
engine_over workers place opened = record { index = place; workers = workers; records = opened.records; documents = opened.documents; chunks = length (disk_chunks (arc_value opened.snapshot)) }

-- the engines of these indexes over their stores
abbrev pub engines_over : {D : Type 0} → List IndexConf → List (Opened D) → ℕ → EnginesValue
engines_over confs stores workers = record { confs = confs; engines = map (λ e. engine_over workers e.0 e.1) (enumerate_from 0 stores); workers = workers }

-- Each engine is of the index of its place's number, and for so many workers.
pub record ArePlaced (workers : ℕ) (engines : List EngineValue) : Type 0 where
  pub each : (place : ℕ) (engine : EngineValue) → slice_get engines place ≡ Some engine → (engine.index ≡ place) × (engine.workers ≡ workers)
