-- Served: what all workers did, how each index ended, and its one history.
use Rattle.std.specs.Prelude.{◌≡◌, ℕ, List, Some, Ok, length, map, slice_get}
use Rattle.srch_base.specs.declared.door.Door.{Ghosts as DoorWords}
use Rattle.srch_base.specs.declared.link.Link.{Ghosts as LinkWords}
use Rattle.chunk_store.specs.declared.disk.Disk.{Ghosts as DiskWords}
use Rattle.doc_types.specs.declared.schema.Schema.{Schema}
use Rattle.index_conf.specs.declared.conf.IndexConf.{IndexConf}
use Rattle.step_book.specs.Fronts.{FrontValue}
use Rattle.step_book.specs.Tellings.{AtOpening}
use Rattle.step_history.specs.History.{Base}
use Rattle.engine_tables.specs.Endings.{HaveEnded}
use Rattle.engine_tables.specs.Tokens.{TokensValue, tokens_at}
use Rattle.engine_tables.specs.declared.ended.Ended.{Ended}
use Rattle.line_workers.specs.Attempts.{events_of}
use Rattle.line_workers.specs.Doubts.{AreSettled}
use Rattle.line_workers.specs.Faults.{FaultsFit, StopsFit}
use Rattle.line_workers.specs.Histories.{IsOneHistory}
use Rattle.line_workers.specs.Lines.{Service}
use Rattle.line_workers.specs.Strayings.{IsUnstrayed, RestsOn}
use Rattle.line_workers.specs.Workers.{AllWork}
use Rattle.line_workers.specs.declared.seat.Seat.{Seat}

-- All workers served at most so many lines each, and then each index ended with all their tokens of it, and with a note of the history
-- that its disk keeps. Unless that strayed, it is the one history of the index: all that the lines were shown and told is of it. Each
-- call that a line left in doubt was settled as it was wanted, if it was. Where the history strayed, a line was told so, or a token
-- contradicts it. Faults are no more than the disk's count rose by, and calls were stopped only where numbers of files or of roots may
-- have ended.
pub record IsServed {D E K J : Type 0} (disk : DiskWords D) (door : DoorWords E K) (link : LinkWords K) (schema : ℕ → Schema) (base : ℕ → Base) (opened : ℕ → AtOpening) (confs : List IndexConf) (sessions : ℕ) (old new : List (Seat E J K)) (ends : List (Ended D J)) : Type 0 where
  pub services : List (List (Service K FrontValue))
  pub left : List TokensValue
  pub works : AllWork door link schema base confs (length old) sessions 1 services left old new
  pub ended : HaveEnded disk schema base opened (length confs) (length old) left ends
  pub histories : (index : ℕ) (end : Ended D J) (note : FrontValue) → slice_get ends index ≡ Some end → end.note ≡ Some note → IsUnstrayed end.answer
      → IsOneHistory (schema index) (base index) index note.steps (map events_of services)
  pub settled : (index : ℕ) (end : Ended D J) (note : FrontValue) → slice_get ends index ≡ Some end → end.note ≡ Some note → AreSettled (base index) index note.steps (map events_of services)
  pub strays : (index : ℕ) (end : Ended D J) → slice_get ends index ≡ Some end
      → RestsOn disk (schema index) (base index) index (length old) (tokens_at index left) (map events_of services) end.disk end.note end.answer
  pub faults : (index : ℕ) (end : Ended D J) → slice_get ends index ≡ Some end → FaultsFit (opened index) index (map events_of services) (disk.faults end.disk)
  pub stops : (index : ℕ) (end : Ended D J) (note : FrontValue) → slice_get ends index ≡ Some end → end.note ≡ Some note → end.answer ≡ Ok tt
      → StopsFit (opened index) index note.steps (map events_of services) (disk.faults end.disk)
