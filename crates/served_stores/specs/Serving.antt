-- Serving: what comes of serving all indexes, in words that have no names. A seat and what is left of an engine are of a type that
-- stands for the names; here it is one without a value's worth, since nothing that is said depends on it.
use Rattle.std.specs.Prelude.{◌≡◌, ◌⊎◌, ℕ, List, Bool, true, false, length, map}
use Rattle.std.specs.List.{list_any}
use Rattle.chunk_store.specs.declared.disk.Disk.{Ghosts as DiskWords}
use Rattle.doc_types.specs.declared.schema.Schema.{Schema}
use Rattle.engine_tables.specs.Endings.{ComeBack}
use Rattle.engine_tables.specs.declared.ended.Ended.{Ended}
use Rattle.index_conf.specs.declared.conf.IndexConf.{IndexConf}
use Rattle.line_workers.specs.Served.{IsServed}
use Rattle.line_workers.specs.declared.seat.Seat.{Seat}
use Rattle.line_workers.specs.declared.serving.SeatEnd.{SeatEnd}
use Rattle.line_workers.specs.declared.serving.SeatEnd.TheVariants as ends
use Rattle.srch_base.specs.declared.door.Door.{Ghosts as DoorWords}
use Rattle.srch_base.specs.declared.link.Link.{Ghosts as LinkWords}
use Rattle.step_book.specs.Tellings.{AtOpening}
use Rattle.step_history.specs.History.{Base}
use Rattle.store_keep.specs.declared.opening.Opened.{Opened}
use Rattle.served_stores.specs.Stores.{AreNamesOf}
use Rattle.served_stores.specs.declared.ends.IndexEnd.{IndexEnd}
use Rattle.served_stores.specs.declared.serving.Outcome.{Outcome}
use Rattle.served_stores.specs.declared.serving.Outcome.TheVariants as outcomes
use Rattle.served_stores.specs.declared.serving.Served.{Served}

-- a worker's seat, and what is left of an engine
abbrev pub AnySeat : Type 0 → Type 0 → Type 0
AnySeat E K = Seat E (Unit {0}) K

abbrev pub AnyEnded : Type 0 → Type 0
AnyEnded D = Ended D (Unit {0})

-- what is left of an engine, without the note of its history
abbrev pub end_of : {D J : Type 0} → Ended D J → IndexEnd D
end_of ended = record { disk = ended.disk; answer = ended.answer }

-- the worker's door failed
abbrev pub is_failed : SeatEnd → Bool
is_failed ends.HostFault = true
is_failed ends.Ready = false
is_failed ends.Done = false

-- some worker's door failed
abbrev pub some_failed : {E K J : Type 0} → List (Seat E J K) → Bool
some_failed seats = list_any (λ seat. is_failed seat.end) seats

abbrev pub outcome_of : Bool → Outcome
outcome_of true = outcomes.HostFault
outcome_of false = outcomes.Done

-- All workers served the lines of these doors, and then each index ended.
pub record HasServed {D E K : Type 0} (disk : DiskWords D) (door : DoorWords E K) (link : LinkWords K) (schema : ℕ → Schema) (base : ℕ → Base) (opened : ℕ → AtOpening) (confs : List IndexConf) (sessions : ℕ) (doors : List E) (served : Served D E) : Type 0 where
  pub seats : List (AnySeat E K)
  pub left : List (AnySeat E K)
  pub ended : List (AnyEnded D)
  pub sat : map (λ seat. seat.door) seats ≡ doors
  pub stood : map (λ seat. seat.door) left ≡ served.doors.items
  pub ends : map end_of ended ≡ served.ends.items
  pub is : IsServed disk door link schema base opened confs sessions seats left ended
  pub outcome : served.outcome ≡ outcome_of (some_failed left)

-- Memory was refused before a worker began: the doors are as they were, and each disk came back as it was opened, or as the end of its
-- engine left it, with the tokens that it gave and with which nobody had worked.
pub record HasNone {D E : Type 0} (disk : DiskWords D) (schema : ℕ → Schema) (base : ℕ → Base) (opened : ℕ → AtOpening) (stores : List (Opened D)) (doors : List E) (served : Served D E) : Type 0 where
  pub outcome : served.outcome ≡ outcomes.NoMemory
  pub same : served.doors.items ≡ doors
  pub ended : List (AnyEnded D)
  pub ends : map end_of ended ≡ served.ends.items
  pub back : ComeBack disk schema base opened (length doors) stores ended

-- What comes of serving these indexes over their stores by these doors.
pub record Serves {D E K : Type 0} (disk : DiskWords D) (door : DoorWords E K) (link : LinkWords K) (confs : List IndexConf) (stores : List (Opened D)) (sessions : ℕ) (doors : List E) (served : Served D E) : Type 0 where
  pub schema : ℕ → Schema
  pub base : ℕ → Base
  pub opened : ℕ → AtOpening
  pub of : AreNamesOf disk confs stores schema base opened
  pub comes : HasServed disk door link schema base opened confs sessions doors served ⊎ HasNone disk schema base opened stores doors served
