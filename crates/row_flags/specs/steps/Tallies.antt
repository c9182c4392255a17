-- What is told of a row by one keyword after another.
use Rattle.std.specs.Prelude.{◌≡◌, ◌+◌, ◌<◌, ◌==◌, ℕ, List, Bool, Some, bit_and, bit_or, fold, if◌then◌else◌, length, min, slice_get, slice_index_or}
use Rattle.doc_types.specs.declared.documents.DocRow.{DocRow}
use Rattle.doc_types.specs.Chunks.{fields_with, has_word}
use Rattle.query_tree.specs.declared.key.Key.{Key}
use Rattle.row_flags.specs.declared.windows.Told.{Told}

-- before any keyword was looked for
abbrev pub first_told : Bool → Bool → Told
first_told by_fields found = record { found = found; words = 0; fields = if by_fields then 0 else 4294967295 }

-- the row has one word more, in these fields
abbrev pub with_word : ℕ → Told → Told
with_word fields told = record { found = told.found; words = min (told.words + 1) 65535; fields = bit_or told.fields fields }

-- the fields in which the row has the keyword's word, of those in which the keyword may stand; none where they aren't asked for
abbrev pub fields_for : Bool → Key → DocRow → ℕ
fields_for by_fields key row = if by_fields then bit_and (fields_with key.word row) key.limit.fields else 0

-- a keyword was looked for in the row
abbrev pub tally : Bool → DocRow → Told → Key → Told
tally by_fields row told key = if has_word key.word row then with_word (fields_for by_fields key row) told else told

-- and so were all of these
abbrev pub tally_all : Bool → DocRow → List Key → Told → Told
tally_all by_fields row keys told = fold (tally by_fields row) told keys

-- What was told of each of the rows from one on, and what is told after these keywords were looked for.
abbrev pub AreTallied : Bool → List Key → List DocRow → ℕ → List Told → List Told → Type 0
AreTallied by_fields keys rows from before after =
    (i : ℕ) (row : DocRow) (d : Told) → i < length before → slice_get rows (from + i) ≡ Some row → slice_index_or after i d ≡ tally_all by_fields row keys (slice_index_or before i d)

-- what becomes of something that is told of the row of this number, where each of these rows changes what is told of it
abbrev pub changed : {X : Type 0} → (X → X) → ℕ → X → List ℕ → X
changed change number x rows = fold (λ told row. if row == number then change told else told) x rows
