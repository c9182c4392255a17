-- Endings: how engines end with the tokens of their workers.
use Rattle.std.specs.Prelude.{◌≡◌, ◌⊎◌, ◌≤◌, ℕ, List, [], All, Some, length, slice_get}
use Rattle.chunk_store.specs.declared.disk.Disk.{Ghosts as DiskWords}
use Rattle.commit_outcomes.specs.declared.strayed.Strayed.{Strayed}
use Rattle.doc_types.specs.declared.schema.Schema.{Schema}
use Rattle.step_book.specs.Fronts.{FrontValue}
use Rattle.step_book.specs.Tellings.{AtOpening}
use Rattle.step_history.specs.History.{Base}
use Rattle.step_tokens.specs.Tokens.{TokenValue}
use Rattle.store_keep.specs.Names.{first_tokens}
use Rattle.store_keep.specs.declared.opening.Opened.{Opened}
use Rattle.snap_share.specs.Closings.{Closes}
use Rattle.engine_tables.specs.Engines.{EnginesValue}
use Rattle.engine_tables.specs.Tokens.{SeatsDiffer, SitsAt, TokensValue, told_at, tokens_at}
use Rattle.engine_tables.specs.declared.ended.Ended.{Ended}

-- For how many indexes and workers there is room, and the tokens of workers that have ended, one worker after the other.
pub record EndingValue : Type 0 where
  pub indexes : ℕ
  pub workers : ℕ
  pub seats : List TokensValue

-- There is room for these engines, and the tokens are of workers of them, each of another one.
pub record CanEnd (engines : EnginesValue) (ending : EndingValue) : Type 0 where
  pub room : length engines.confs ≤ ending.indexes
  pub sit : All (SitsAt engines) ending.seats
  pub differ : SeatsDiffer ending.seats

-- The engine of this index, for so many workers, ended with these tokens, where calls had told workers these contradictions. There is a
-- note of its history, whatever it answers.
abbrev pub HasEnded : {D J : Type 0} → DiskWords D → (ℕ → Schema) → (ℕ → Base) → (ℕ → AtOpening) → ℕ → ℕ → List Strayed → List TokenValue → Ended D J → Type 0
HasEnded words schema base opened place workers told tokens ended =
    (note : FrontValue) × (ended.note ≡ Some note) × (new : List TokenValue) × Closes words schema base opened place workers told tokens ended.disk note ended.answer new

-- The engines of so many indexes ended, each with the tokens of its index and what calls to it were told, of all workers.
pub record HaveEnded {D J : Type 0} (words : DiskWords D) (schema : ℕ → Schema) (base : ℕ → Base) (opened : ℕ → AtOpening) (indexes workers : ℕ) (seats : List TokensValue) (all : List (Ended D J)) : Type 0 where
  pub many : length all ≡ indexes
  pub each : (place : ℕ) (ended : Ended D J) → slice_get all place ≡ Some ended → HasEnded words schema base opened place workers (told_at place seats) (tokens_at place seats) ended

-- The disk of a store came back as it was opened, or as its engine left it, which ended before a worker began, with the tokens that it
-- gave.
abbrev pub ComesBack : {D J : Type 0} → DiskWords D → (ℕ → Schema) → (ℕ → Base) → (ℕ → AtOpening) → ℕ → ℕ → Opened D → Ended D J → Type 0
ComesBack words schema base opened workers place store ended = (ended.disk ≡ store.disk) ⊎ HasEnded words schema base opened place workers [] (first_tokens place workers) ended

-- the disks of all stores came back, in their order
pub record ComeBack {D J : Type 0} (words : DiskWords D) (schema : ℕ → Schema) (base : ℕ → Base) (opened : ℕ → AtOpening) (workers : ℕ) (stores : List (Opened D)) (all : List (Ended D J)) : Type 0 where
  pub many : length all ≡ length stores
  pub each : (place : ℕ) (store : Opened D) (ended : Ended D J) → slice_get stores place ≡ Some store → slice_get all place ≡ Some ended → ComesBack words schema base opened workers place store ended
