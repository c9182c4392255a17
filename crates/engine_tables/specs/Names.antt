-- Names: of which index each store is.
use Rattle.std.specs.Prelude.{◌≡◌, ◌<◌, ◌≤◌, ◌^◌, ℕ, List, [], All, Some, length, slice_get}
use Rattle.logbook.specs.Pages.{Book}
use Rattle.chunk_store.specs.declared.disk.Disk.{Ghosts as DiskWords}
use Rattle.doc_types.specs.declared.schema.Schema.{Schema}
use Rattle.doc_types.specs.Schemas.{IsSchema}
use Rattle.index_conf.specs.declared.conf.IndexConf.{IndexConf}
use Rattle.step_book.specs.Tellings.{AtOpening}
use Rattle.step_history.specs.History.{Base}
use Rattle.store_keep.specs.Opens.{IsOpened, base_of, opening_of}
use Rattle.store_keep.specs.declared.opening.Opened.{Opened}
use Rattle.engine_tables.specs.Endings.{EndingValue}

-- The store at each place is the one that the names of the index of this number are of: its books, its beginning, what its disk had
-- counted then, and the columns with which it was opened, which are those of the configuration.
pub record AreNamed {D : Type 0} (words : DiskWords D) (book faults stops : ℕ → Book) (schema : ℕ → Schema) (base : ℕ → Base) (opened : ℕ → AtOpening) (confs : List IndexConf) (stores : List (Opened D)) : Type 0 where
  pub many : length stores ≡ length confs
  pub columns : (place : ℕ) (conf : IndexConf) → slice_get confs place ≡ Some conf → schema place ≡ conf.schema
  pub books : (place : ℕ) (store : Opened D) → slice_get stores place ≡ Some store → store.book.past.seen.book ≡ book place
  pub fault_books : (place : ℕ) (store : Opened D) → slice_get stores place ≡ Some store → store.faults.past.seen.book ≡ faults place
  pub stop_books : (place : ℕ) (store : Opened D) → slice_get stores place ≡ Some store → store.stops.past.seen.book ≡ stops place
  pub bases : (place : ℕ) (store : Opened D) → slice_get stores place ≡ Some store → base place ≡ base_of store
  pub openings : (place : ℕ) (store : Opened D) → slice_get stores place ≡ Some store → opened place ≡ opening_of words store
  pub are_opened : (place : ℕ) (store : Opened D) → slice_get stores place ≡ Some store → IsOpened words (schema place) store

-- configurations that can be served
pub record AreServed (confs : List IndexConf) : Type 0 where
  pub few : length confs < 2 ^ 16
  pub schemas : All (λ conf. IsSchema conf.schema) confs
  pub zones : All (λ conf. conf.rules.zones ≡ conf.schema.zones) confs

-- There is room for so many indexes and workers, and no tokens are there yet.
pub record IsRoomFor (indexes workers : ℕ) (ending : EndingValue) : Type 0 where
  pub indexes_fit : indexes ≤ ending.indexes
  pub workers_fit : workers ≤ ending.workers
  pub none : ending.seats ≡ []
