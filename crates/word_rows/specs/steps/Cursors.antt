-- cursors on their way from row to row, and terms as they are made
use Rattle.std.specs.Prelude.{◌≡◌, ◌≤◌, ◌<◌, ℕ, List, [], true, false, Option, Some, None, Bool, ◌==◌, slice_get, nat_le, ◌∷◌, ◌++◌, if◌then◌else◌}
use Rattle.std.specs.List.{filter, list_any}
use Rattle.std.specs.Option.{option_map_or}
use Rattle.std.specs.Str.{bytes_eq}
use Rattle.doc_types.specs.declared.cursor.Cursor.{Cursor}
use Rattle.doc_types.specs.declared.tokens.TheConstants.{MAX_POSITION}
use Rattle.doc_types.specs.Chunks.{CursorPlace, next_row}
use Rattle.query_tree.specs.declared.key.Key.{Key}
use Rattle.occ_lists.specs.declared.term.Term.{Term}
use Rattle.word_rows.specs.Keywords.{has_field}
use Rattle.word_rows.specs.Slots.{next_of}

-- that is this row
abbrev pub is_next : (Cursor → CursorPlace) → ℕ → Option Cursor → Bool
is_next place row cursor = option_map_or (λ next. next == row) (next_of place cursor) false

-- The cursor has gone over no row from this one on.
pub record Keeps (belongs : Cursor → Type 0) (place : Cursor → CursorPlace) (row : ℕ) (old new : Cursor) : Type 0 where
  pub its : belongs new
  pub over : (place new).word ≡ (place old).word
  pub ahead : filter (nat_le row) (place new).ahead ≡ filter (nat_le row) (place old).ahead

-- It has gone over those before this one, and no other.
pub record HasPassed (belongs : Cursor → Type 0) (place : Cursor → CursorPlace) (row : ℕ) (old new : Cursor) : Type 0 where
  pub kept : Keeps belongs place row old new
  pub next : next_row (place new) ≡ slice_get (filter (nat_le row) (place old).ahead) 0

abbrev pub Passes : (Cursor → Type 0) → (Cursor → CursorPlace) → ℕ → Option Cursor → Option Cursor → Type 0
Passes belongs place row None new = new ≡ None
Passes belongs place row (Some old) None = ⊥
Passes belongs place row (Some old) (Some new) = HasPassed belongs place row old new

-- the words with this one, which is added if it isn't there
abbrev pub with_word : List (List ℕ) → List ℕ → List (List ℕ)
with_word words word = if list_any (λ seen. bytes_eq seen word) words then words else words ++ word ∷ []

-- no limit and no mark keeps the keyword from a place of a row with so many fields
pub record IsUnlimited (key : Key) (count : ℕ) : Type 0 where
  pub start : key.start ≡ false
  pub end : key.end ≡ false
  pub positions : MAX_POSITION ≤ key.limit.positions
  pub zones : key.limit.zones ≡ []
  pub fields : (field : ℕ) → field < count → has_field key.limit.fields field ≡ true

-- the term as it is made, for rows with so many fields
pub record IsMadeFor (number : List ℕ → ℕ) (count : ℕ) (key : Key) (term : Term) : Type 0 where
  pub query : term.query ≡ key.query
  pub word : term.word ≡ number key.word
  pub free : term.free ≡ true → IsUnlimited key count
