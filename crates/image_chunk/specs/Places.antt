-- Where cursors stand in the posting lists of an image.
use Rattle.std.specs.Prelude.{◌≡◌, ◌<◌, ◌≤◌, ◌+◌, ◌-◌, ℕ, List, [], ◌∷◌, ◌++◌, Option, Some, None, IsSomeAnd, length, drop, take, slice_get, nat_lt, if◌then◌else◌}
use Rattle.doc_types.specs.declared.cursor.Cursor.{Cursor}
use Rattle.doc_types.specs.declared.cursor.TheConstants.{NO_ROW}
use Rattle.doc_types.specs.declared.documents.DocRow.{DocRow}
use Rattle.doc_types.specs.Chunks.{CursorPlace, rows_from, rows_with}
use Rattle.chunk_image.specs.AlikeRows.{postings}
use Rattle.posting_codec.specs.Numbers.{number}
use Rattle.posting_codec.specs.HitLists.{AreHits, hit_list}
use Rattle.posting_codec.specs.PostingLists.{posting_list}
use Rattle.chunk_image.specs.ChunkImage.{postings_bytes}

-- a row with the places of a word in it
abbrev pub Entry : Type 0
Entry = ℕ × List (ℕ × ℕ)

-- the cursor's row is the first of these entries, and what follows its number is at its place; or none is left
abbrev pub Here : List ℕ → ℕ → ℕ → List Entry → Type 0
Here list at index [] = index ≡ NO_ROW
Here list at index (entry ∷ entries) = (index ≡ entry.0) × (drop at list ≡ number (length (hit_list entry.1)) ++ (hit_list entry.1 ++ posting_list (entry.0 + 1) entries))

-- the rows of entries ascend from this one on and stay below that one, and each has some hits
abbrev pub Rising : ℕ → ℕ → List Entry → Type 0
Rising least most [] = least ≤ most
Rising least most (entry ∷ entries) = (least ≤ entry.0) × (entry.0 < most) × AreHits entry.1 × Rising (entry.0 + 1) most entries

-- a row is here, and those after it ascend
abbrev pub IsHere : List ℕ → ℕ → ℕ → Type 0
IsHere list at index = (entry : Entry) × (entries : List Entry) × Here list at index (entry ∷ entries) × AreHits entry.1 × Rising (entry.0 + 1) NO_ROW entries

-- a posting list is here that has some rows
abbrev pub IsList : List ℕ → ℕ → Type 0
IsList list at = (entry : Entry) × (entries : List Entry) × (drop at list ≡ posting_list 0 (entry ∷ entries)) × Rising 0 NO_ROW (entry ∷ entries)

-- the entries from this row on
abbrev pub entries_from : ℕ → List Entry → List Entry
entries_from from [] = []
entries_from from (entry ∷ entries) = if nat_lt entry.0 from then entries_from from entries else entry ∷ entries

-- the image up to the end of the list of the word of this number
abbrev pub list_in : List DocRow → List (List ℕ) → List ℕ → ℕ → List ℕ
list_in rows words bytes n = take (length bytes - length (postings_bytes rows (drop (n + 1) words))) bytes

-- the cursor stands in the list of its word, at the first of the entries from its row on
abbrev pub StandsIn : List DocRow → List (List ℕ) → List ℕ → Cursor → Type 0
StandsIn rows words bytes cursor = IsSomeAnd (slice_get words cursor.word) (λ word. Here (list_in rows words bytes cursor.word) cursor.at cursor.index (entries_from cursor.index (postings word 0 rows)))

-- the place at a row of a word
abbrev pub place_of : List DocRow → Option (List ℕ) → ℕ → CursorPlace
place_of rows None index = record { word = []; ahead = [] }
place_of rows (Some word) index = record { word = word; ahead = rows_from index (rows_with word rows) }

-- the place that the cursor stands for
abbrev pub place_in : List DocRow → List (List ℕ) → Cursor → CursorPlace
place_in rows words cursor = place_of rows (slice_get words cursor.word) cursor.index
