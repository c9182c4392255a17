-- the keywords of a query on their way over the rows of a chunk, each with a cursor over those that have its word
use Rattle.std.specs.Prelude.{◌≡◌, ℕ, List, [], map, true, Option, Some, None, All, slice_get, nat_le, unwrap_or}
use Rattle.std.specs.List.{AllZip, filter, position}
use Rattle.std.specs.Str.{bytes_eq}
use Rattle.doc_types.specs.declared.cursor.Cursor.{Cursor}
use Rattle.doc_types.specs.declared.documents.DocRow.{DocRow}
use Rattle.doc_types.specs.Chunks.{CursorPlace, hits_of, rows_with, next_row}
use Rattle.query_tree.specs.declared.key.Key.{Key}
use Rattle.occ_lists.specs.declared.term.Term.{Term}
use Rattle.word_rows.specs.declared.slots.Slots.{Slots}
use Rattle.word_rows.specs.Keywords.{allows, first_uses}

-- ---- cursors

-- the first row from this one on that has the word
abbrev pub next_with : List ℕ → List DocRow → ℕ → Option ℕ
next_with word rows from = slice_get (filter (nat_le from) (rows_with word rows)) 0

-- The cursor goes over the rows that have the word; those from this row on are all ahead of it.
pub record IsOver (belongs : Cursor → Type 0) (place : Cursor → CursorPlace) (rows : List DocRow) (from : ℕ) (word : List ℕ) (cursor : Cursor) : Type 0 where
  pub its : belongs cursor
  pub over : (place cursor).word ≡ word
  pub ahead : filter (nat_le from) (place cursor).ahead ≡ filter (nat_le from) (rows_with word rows)

-- where no row has the word there is no cursor
abbrev pub Stands : (Cursor → Type 0) → (Cursor → CursorPlace) → List DocRow → ℕ → List ℕ → Option Cursor → Type 0
Stands belongs place rows from word None = rows_with word rows ≡ []
Stands belongs place rows from word (Some cursor) = IsOver belongs place rows from word cursor

-- the row that comes next, if there is a cursor and a row is left
abbrev pub next_of : (Cursor → CursorPlace) → Option Cursor → Option ℕ
next_of place None = None
next_of place (Some cursor) = next_row (place cursor)

-- ---- terms

-- the number of a word among the keywords'
abbrev pub number_among : List Key → List ℕ → ℕ
number_among keys word = unwrap_or (position (bytes_eq word) (first_uses (map (λ key. key.word) keys))) 0

-- the term is the keyword's, whatever the row; where it is free, each place of the word is one of the keyword
pub record IsTermFor (rows : List DocRow) (number : List ℕ → ℕ) (key : Key) (term : Term) : Type 0 where
  pub query : term.query ≡ key.query
  pub word : term.word ≡ number key.word
  pub free : term.free ≡ true → All (λ row. filter (allows row key) (hits_of key.word row) ≡ hits_of key.word row) rows

-- ---- all together

abbrev pub keys_of : Slots → List Key
keys_of slots = map (λ key. key.now) slots.keys.items

abbrev pub words_of : Slots → List (List ℕ)
words_of slots = map (λ key. key.now.word) slots.keys.items

-- Each keyword has its cursor, which has not gone over a row from this one on, and its term.
pub record AreSlots (belongs : Cursor → Type 0) (place : Cursor → CursorPlace) (rows : List DocRow) (from : ℕ) (slots : Slots) : Type 0 where
  pub cursors : AllZip (Stands belongs place rows from) (words_of slots) slots.cursors.items
  pub terms : AllZip (IsTermFor rows (number_among (keys_of slots))) (keys_of slots) slots.terms.items

-- Each cursor has gone over all rows before this one.
abbrev pub AreAt : (Cursor → CursorPlace) → List DocRow → ℕ → Slots → Type 0
AreAt place rows row slots = AllZip (λ word cursor. next_of place cursor ≡ next_with word rows row) (words_of slots) slots.cursors.items
