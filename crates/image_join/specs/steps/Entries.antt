-- The entries of a word: rows by their new numbers, each with the bytes of its hit list.
use Rattle.std.specs.Prelude.{◌≡◌, ◌<◌, ◌≤◌, ℕ, ◌+◌, List, [], ◌∷◌, ◌++◌, ◌==◌, true, Some, if◌then◌else◌, map, slice_get, slice_index, All}
use Rattle.std.specs.List.{flat_map, list_any}
use Rattle.std.specs.Option.{option_map_or}
use Rattle.std.specs.Borrow.{Bor}
use Rattle.doc_types.specs.declared.cursor.TheConstants.{NO_ROW}
use Rattle.doc_types.specs.declared.documents.DocRow.{DocRow}
use Rattle.doc_types.specs.Chunks.{has_word, hits_of, rows_with}
use Rattle.posting_codec.specs.HitLists.{hit_list}
use Rattle.posting_codec.specs.PostingLists.{spelled_posting}
use Rattle.image_join.specs.steps.Parts.{PartValue}

abbrev pub Entry : Type 0
Entry = ℕ × List ℕ

-- entries whose bytes are lent
abbrev pub lent : List (ℕ × Bor (List ℕ)) → List Entry
lent entries = map (λ entry. (entry.0, entry.1.now)) entries

-- the entry of one of these rows, if it has a number, where so many rows stand before the first
abbrev pub entry_of : List ℕ → List ℕ → ℕ → List DocRow → ℕ → List Entry
entry_of word numbers first rows row =
    if slice_index numbers (first + row) == NO_ROW then [] else (slice_index numbers (first + row), hit_list (option_map_or (hits_of word) (slice_get rows row) [])) ∷ []

-- the entries of the word in rows, and in a part
abbrev pub entries_from : List ℕ → List ℕ → ℕ → List DocRow → List Entry
entries_from word numbers first rows = flat_map (entry_of word numbers first rows) (rows_with word rows)

abbrev pub entries_in : List ℕ → List ℕ → PartValue → List Entry
entries_in word numbers part = entries_from word numbers part.first part.rows

-- each entry's row lies behind the one before, the first one at this row or behind it
abbrev pub Rising : ℕ → List Entry → Type 0
Rising least [] = Unit {0}
Rising least (entry ∷ entries) = (least ≤ entry.0) × (entry.0 < NO_ROW) × Rising (entry.0 + 1) entries

-- the posting list of entries, the first of which is this row at least
abbrev pub spelled_list : ℕ → List Entry → List ℕ
spelled_list least [] = []
spelled_list least (entry ∷ entries) = spelled_posting least entry.0 entry.1 ++ spelled_list (entry.0 + 1) entries

-- an entry of one of these rows that has the word, where the first has this number
pub record IsEntryOf (word : List ℕ) (first : ℕ) (rows : List DocRow) (entry : Entry) : Type 0 where
  pub at : ℕ
  pub row : DocRow
  pub numbered : entry.0 ≡ first + at
  pub here : slice_get rows at ≡ Some row
  pub has : has_word word row ≡ true
  pub hits : entry.1 ≡ hit_list (hits_of word row)

-- entries for all rows that have the word, and for no other
pub record AreEntriesOf (word : List ℕ) (rows : List DocRow) (entries : List Entry) : Type 0 where
  pub each : All (IsEntryOf word 0 rows) entries
  pub all : (n : ℕ) (row : DocRow) → slice_get rows n ≡ Some row → has_word word row ≡ true → list_any (λ entry. entry.0 == n) entries ≡ true
