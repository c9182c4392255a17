-- Stores: those that were opened for the indexes of a configuration, and what their names say of them.
use Rattle.std.specs.Prelude.{◌≡◌, ℕ, List, Some, length, slice_get}
use Rattle.chunk_store.specs.declared.disk.Disk.{Ghosts as DiskWords}
use Rattle.doc_types.specs.declared.schema.Schema.{Schema}
use Rattle.index_conf.specs.declared.conf.IndexConf.{IndexConf}
use Rattle.step_book.specs.Tellings.{AtOpening}
use Rattle.step_history.specs.History.{Base}
use Rattle.store_keep.specs.Opens.{IsOpened, base_of, opening_of}
use Rattle.store_keep.specs.declared.opening.Opened.{Opened}

-- The store of each index was opened with the columns that are configured.
pub record AreStores {D : Type 0} (words : DiskWords D) (confs : List IndexConf) (stores : List (Opened D)) : Type 0 where
  pub many : length stores ≡ length confs
  pub opened : (place : ℕ) (conf : IndexConf) (store : Opened D) → slice_get confs place ≡ Some conf → slice_get stores place ≡ Some store → IsOpened words conf.schema store

-- An index has the columns that are configured. Its history begins where its store stood once it was open; so do the counts of its
-- disk's faults, and the numbers of files and of roots.
pub record AreNamesOf {D : Type 0} (words : DiskWords D) (confs : List IndexConf) (stores : List (Opened D)) (schema : ℕ → Schema) (base : ℕ → Base) (opened : ℕ → AtOpening) : Type 0 where
  pub columns : (place : ℕ) (conf : IndexConf) → slice_get confs place ≡ Some conf → schema place ≡ conf.schema
  pub bases : (place : ℕ) (store : Opened D) → slice_get stores place ≡ Some store → base place ≡ base_of store
  pub openings : (place : ℕ) (store : Opened D) → slice_get stores place ≡ Some store → opened place ≡ opening_of words store
