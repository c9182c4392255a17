-- The names that are picked are those of the stores.
use Rattle.std.proofs.Common.{◌≡◌, ◌<◌, ℕ, zero, suc, List, [], ◌∷◌, Some, refl, sym, ap, subst, arith, length, slice_get}
use Rattle.std.proofs.lemmas.Option.{slice_get_within}
use Rattle.std.specs.Option.{option_map_or}
use Rattle.chunk_store.specs.declared.disk.Disk.{Ghosts as DiskWords}
use Rattle.doc_types.specs.declared.schema.Schema.{Schema}
use Rattle.engine_tables.specs.Names.{AreNamed}
use Rattle.index_conf.specs.declared.conf.IndexConf.{IndexConf}
use Rattle.step_book.specs.Tellings.{no_base, no_schema, nothing_opened}
use Rattle.store_keep.specs.Opens.{IsOpened, base_of, opening_of}
use Rattle.store_keep.specs.declared.opening.Opened.{Opened}
use Rattle.served_stores.specs.Stores.{AreNamesOf, AreStores}
use Rattle.served_stores.specs.steps.Picks.{base_at, book_at, faults_at, no_book, opening_at, schema_at, stops_at}

-- what a place that is there gives
pub picked : {A B : Type 0} (f : A → B) (default : B) (xs : List A) (place : ℕ) (x : A) → slice_get xs place ≡ Some x → option_map_or f (slice_get xs place) default ≡ f x
picked f default xs place x at = ap (λ (o : _). option_map_or f o default) at

module _ {D : Type 0} (words : DiskWords D) (confs : List IndexConf) (stores : List (Opened D)) where
  -- a store has a configuration at its place
  conf_there : AreStores words confs stores → (place : ℕ) (store : Opened D) → slice_get stores place ≡ Some store → (conf : IndexConf) × (slice_get confs place ≡ Some conf)
  conf_there are place store at = there confs place (omega (arith, slice_get_within stores place store at, are.many))
    where
      there : (list : List IndexConf) (place : ℕ) → place < length list → (conf : IndexConf) × (slice_get list place ≡ Some conf)
      there [] place within = absurd (omega (arith, within))
      there (conf ∷ list) zero within = (conf, refl)
      there (conf ∷ list) (suc place) within = there list place (omega (arith, within))

  -- what the picked names say of the stores
  pub names_of : AreNamesOf words confs stores (schema_at confs) (base_at stores) (opening_at words stores)
  names_of = record {
    columns = λ place conf at. picked (λ (c : IndexConf). c.schema) no_schema confs place conf at;
    bases = λ place store at. picked base_of no_base stores place store at;
    openings = λ place store at. picked (opening_of words) nothing_opened stores place store at;
  }

  -- the picked names name the stores
  pub named_of : AreStores words confs stores → AreNamed words (book_at stores) (faults_at stores) (stops_at stores) (schema_at confs) (base_at stores) (opening_at words stores) confs stores
  named_of are = record {
    many = are.many;
    columns = names_of.columns;
    books = λ place store at. sym (picked (λ (s : Opened D). s.book.past.seen.book) no_book stores place store at);
    fault_books = λ place store at. sym (picked (λ (s : Opened D). s.faults.past.seen.book) no_book stores place store at);
    stop_books = λ place store at. sym (picked (λ (s : Opened D). s.stops.past.seen.book) no_book stores place store at);
    bases = names_of.bases;
    openings = names_of.openings;
    are_opened = λ place store at.
        let found = conf_there are place store at in
        subst (λ (schema : Schema). IsOpened words schema store) (sym (names_of.columns place found.0 found.1)) (are.opened place found.0 store found.1 at);
  }
