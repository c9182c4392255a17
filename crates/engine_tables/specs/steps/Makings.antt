-- Makings: how engines are made one after the other.
use Rattle.std.specs.Prelude.{◌≡◌, ◌⊎◌, ℕ, ◌+◌, ◌≤◌, ◌<◌, ◌^◌, List, [], ◌∷◌, ◌++◌, Some, length, map, slice_get, vec_capacity}
use Rattle.chunk_store.specs.declared.disk.Disk.{Ghosts as DiskWords}
use Rattle.doc_types.specs.declared.schema.Schema.{Schema}
use Rattle.doc_types.specs.Schemas.{AreZones, IsSchema}
use Rattle.logbook.specs.Pages.{Book}
use Rattle.index_conf.specs.declared.conf.IndexConf.{IndexConf}
use Rattle.step_book.specs.Tellings.{AtOpening}
use Rattle.step_history.specs.History.{Base}
use Rattle.store_keep.specs.Names.{first_tokens}
use Rattle.store_keep.specs.Opens.{IsOpened, base_of, opening_of}
use Rattle.store_keep.specs.declared.opening.Opened.{Opened}
use Rattle.engine_tables.specs.Endings.{ComeBack, HasEnded}
use Rattle.engine_tables.specs.Engines.{ArePlaced, engine_over, engines_over}
use Rattle.engine_tables.specs.Names.{AreNamed, AreServed, IsRoomFor}
use Rattle.engine_tables.specs.Tokens.{new_seats}
use Rattle.engine_tables.specs.declared.ended.Ended.{Ended}
use Rattle.engine_tables.specs.declared.making.Made.{Made}
use Rattle.engine_tables.specs.declared.making.Making.{Making}
use Rattle.engine_tables.specs.declared.making.Making.TheVariants.{Going, Stopped}

-- The store is the one that the names of the index of this number are of, and the columns are those of the configuration.
pub record IsNamedAt {D : Type 0} (words : DiskWords D) (book faults stops : ℕ → Book) (schema : ℕ → Schema) (base : ℕ → Base) (opened : ℕ → AtOpening) (place : ℕ) (conf : IndexConf) (store : Opened D) : Type 0 where
  pub columns : schema place ≡ conf.schema
  pub served : IsSchema conf.schema
  pub zones : AreZones conf.rules.zones
  pub book_is : store.book.past.seen.book ≡ book place
  pub faults_are : store.faults.past.seen.book ≡ faults place
  pub stops_are : store.stops.past.seen.book ≡ stops place
  pub base_is : base place ≡ base_of store
  pub opened_is : opened place ≡ opening_of words store
  pub is_opened : IsOpened words (schema place) store

-- The engines of these stores were made, where nothing had been made before.
pub record IsMadeOf {D J : Type 0} (confs : List IndexConf) (stores : List (Opened D)) (none made : Made D J) : Type 0 where
  pub confs_are : map (λ table. table.conf) made.tables.items ≡ confs
  pub engines_are : map (λ table. table.engine) made.tables.items ≡ (engines_over confs stores none.workers).engines
  pub workers_are : made.workers ≡ none.workers
  pub seats_are : made.seats.items ≡ new_seats (length confs) none.workers
  pub ending_is : made.ending ≡ none.ending
  pub fits : vec_capacity made.tables ≡ vec_capacity none.tables

-- The engine of a store was made behind the others.
pub record IsNext {D J : Type 0} (made : Made D J) (conf : IndexConf) (store : Opened D) (next : Made D J) : Type 0 where
  pub confs_are : map (λ table. table.conf) next.tables.items ≡ map (λ table. table.conf) made.tables.items ++ conf ∷ []
  pub engines_are : map (λ table. table.engine) next.tables.items ≡ map (λ table. table.engine) made.tables.items ++ engine_over made.workers (length made.tables.items) store ∷ []
  pub workers_are : next.workers ≡ made.workers
  pub seats_are : next.seats.items ≡ new_seats (length made.tables.items + 1) made.workers
  pub ending_is : next.ending ≡ made.ending
  pub fits : vec_capacity next.tables ≡ vec_capacity made.tables

-- The engines of so many indexes ended before a worker began, each with the tokens that it gave.
pub record HaveAllEnded {D J : Type 0} (words : DiskWords D) (schema : ℕ → Schema) (base : ℕ → Base) (opened : ℕ → AtOpening) (indexes workers : ℕ) (all : List (Ended D J)) : Type 0 where
  pub many : length all ≡ indexes
  pub each : (place : ℕ) (ended : Ended D J) → slice_get all place ≡ Some ended → HasEnded words schema base opened place workers [] (first_tokens place workers) ended

-- What came back is what the end of each engine left, with the tokens that it gave, and at last the disk of a store of which none was
-- made.
pub record StopsAt {D J : Type 0} (words : DiskWords D) (schema : ℕ → Schema) (base : ℕ → Base) (opened : ℕ → AtOpening) (made : Made D J) (store : Opened D) (all : List (Ended D J)) : Type 0 where
  pub many : length all ≡ length made.tables.items + 1
  pub each : (place : ℕ) (ended : Ended D J) → slice_get all place ≡ Some ended
      → HasEnded words schema base opened place made.workers [] (first_tokens place made.workers) ended ⊎ ((place ≡ length made.tables.items) × (ended.disk ≡ store.disk))

-- Engines were made, and there is room for one more.
pub record CanGoOn {D J : Type 0} (made : Made D J) : Type 0 where
  pub placed : ArePlaced made.workers (map (λ table. table.engine) made.tables.items)
  pub seats_are : made.seats.items ≡ new_seats (length made.tables.items) made.workers
  pub some : 0 < made.workers
  pub few : length made.tables.items + 1 < 2 ^ 16
  pub fits : length made.tables.items + 1 ≤ vec_capacity made.tables
  pub room : IsRoomFor (length made.tables.items + 1) made.workers made.ending

-- Nothing was made, and there is room for so many.
pub record IsNone {D J : Type 0} (indexes : ℕ) (made : Made D J) : Type 0 where
  pub tables_are : made.tables.items ≡ []
  pub seats_are : made.seats.items ≡ new_seats 0 made.workers
  pub some : 0 < made.workers
  pub fits : indexes ≤ vec_capacity made.tables
  pub room : IsRoomFor indexes made.workers made.ending

-- Nothing was made, there is room for all of these, each store is named, and each configuration can be served.
pub record CanBeMade {D J : Type 0} (words : DiskWords D) (book faults stops : ℕ → Book) (schema : ℕ → Schema) (base : ℕ → Base) (opened : ℕ → AtOpening) (confs : List IndexConf) (stores : List (Opened D)) (none : Made D J) : Type 0 where
  pub nothing : IsNone (length confs) none
  pub named : AreNamed words book faults stops schema base opened confs stores
  pub served : AreServed confs

-- the engine of this store was made behind the others, or all are stopped, and each disk came back
abbrev pub MakesOne : {D J : Type 0} → DiskWords D → (ℕ → Schema) → (ℕ → Base) → (ℕ → AtOpening) → Made D J → IndexConf → Opened D → Making D J → Type 0
MakesOne words schema base opened made conf store (Going next) = IsNext made conf store next
MakesOne words schema base opened made conf store (Stopped ended) = StopsAt words schema base opened made store ended.items × (made.ending.indexes ≤ vec_capacity ended)

-- all were made, or it stopped out of memory, and their disks came back
abbrev pub Makes : {D J : Type 0} → DiskWords D → (ℕ → Schema) → (ℕ → Base) → (ℕ → AtOpening) → List IndexConf → List (Opened D) → Made D J → Making D J → Type 0
Makes words schema base opened confs stores none (Going made) = IsMadeOf confs stores none made
Makes words schema base opened confs stores none (Stopped ended) = ComeBack words schema base opened none.workers stores ended.items × (none.ending.indexes ≤ vec_capacity ended)
