-- The cursors of keywords: one for each, in their order, and none where no row has the word.
use Rattle.std.specs.Prelude.{◌≡◌, ℕ, List, Bool, false, ◌==◌, Option, Some, None, nat_le, slice_get}
use Rattle.std.specs.List.{AllZip, filter, list_any}
use Rattle.std.specs.Option.{option_map_or}
use Rattle.doc_types.specs.declared.cursor.Cursor.{Cursor}
use Rattle.doc_types.specs.Chunks.{CursorPlace}

-- the row is ahead of the cursor: it has the word, and wasn't gone over
abbrev pub is_ahead : (Cursor → CursorPlace) → ℕ → Option Cursor → Bool
is_ahead place row cursor = option_map_or (λ its. list_any (λ later. later == row) (place its).ahead) cursor false

-- the row is ahead of the cursor of this number
abbrev pub has_at : (Cursor → CursorPlace) → List (Option Cursor) → ℕ → ℕ → Bool
has_at place cursors row number = option_map_or (is_ahead place row) (slice_get cursors number) false

-- The cursor goes over the rows of the same word, and has gone over none from this one on.
pub record KeepsRows (belongs : Cursor → Type 0) (place : Cursor → CursorPlace) (from : ℕ) (old new : Cursor) : Type 0 where
  pub its : belongs new
  pub word : (place new).word ≡ (place old).word
  pub ahead : filter (nat_le from) (place new).ahead ≡ filter (nat_le from) (place old).ahead

-- where there is none, there is none afterwards
abbrev pub Keeps : (Cursor → Type 0) → (Cursor → CursorPlace) → ℕ → Option Cursor → Option Cursor → Type 0
Keeps belongs place from None new = new ≡ None
Keeps belongs place from (Some old) None = ⊥
Keeps belongs place from (Some old) (Some new) = KeepsRows belongs place from old new

-- the cursors have gone over no row from this one on
abbrev pub Agree : (Cursor → Type 0) → (Cursor → CursorPlace) → ℕ → List (Option Cursor) → List (Option Cursor) → Type 0
Agree belongs place from old new = AllZip (Keeps belongs place from) old new
