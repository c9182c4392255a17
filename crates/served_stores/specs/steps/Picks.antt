-- Picks: the names of stores, each by the place of its index. Where there is no index they may be anything.
use Rattle.std.specs.Prelude.{ℕ, List, slice_get}
use Rattle.std.specs.Option.{option_map_or}
use Rattle.chunk_store.specs.declared.disk.Disk.{Ghosts as DiskWords}
use Rattle.doc_types.specs.declared.schema.Schema.{Schema}
use Rattle.logbook.specs.Pages.{Book}
use Rattle.index_conf.specs.declared.conf.IndexConf.{IndexConf}
use Rattle.step_book.specs.Tellings.{AtOpening, no_base, no_schema, nothing_opened}
use Rattle.step_history.specs.History.{Base}
use Rattle.store_keep.specs.Opens.{base_of, opening_of}
use Rattle.store_keep.specs.declared.opening.Opened.{Opened}

abbrev pub no_book : Book
no_book = record { number = 0; log_name = 0; cells_name = 0 }

abbrev pub book_at : {D : Type 0} → List (Opened D) → ℕ → Book
book_at stores place = option_map_or (λ store. store.book.past.seen.book) (slice_get stores place) no_book

abbrev pub faults_at : {D : Type 0} → List (Opened D) → ℕ → Book
faults_at stores place = option_map_or (λ store. store.faults.past.seen.book) (slice_get stores place) no_book

abbrev pub stops_at : {D : Type 0} → List (Opened D) → ℕ → Book
stops_at stores place = option_map_or (λ store. store.stops.past.seen.book) (slice_get stores place) no_book

abbrev pub schema_at : List IndexConf → ℕ → Schema
schema_at confs place = option_map_or (λ conf. conf.schema) (slice_get confs place) no_schema

abbrev pub base_at : {D : Type 0} → List (Opened D) → ℕ → Base
base_at stores place = option_map_or base_of (slice_get stores place) no_base

abbrev pub opening_at : {D : Type 0} → DiskWords D → List (Opened D) → ℕ → AtOpening
opening_at words stores place = option_map_or (opening_of words) (slice_get stores place) nothing_opened
