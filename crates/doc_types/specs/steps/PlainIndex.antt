-- The index of a plain chunk: its words with the rows of each.
use Rattle.std.specs.Prelude.{◌≡◌, ◌<◌, ◌≤◌, ◌^◌, ◌==◌, ℕ, zero, suc, List, [], ◌∷◌, Option, Some, None, All, AllPairs, IsSomeAnd, length, map, drop, slice_get, unwrap_or}
use Rattle.std.specs.List.{position}
use Rattle.std.specs.Str.{bytes_eq}
use Rattle.std.specs.Cmp.Lexicographic.{slice_cmp}
use Rattle.std.specs.Ordering.{nat_cmp}
use Rattle.std.specs.declared.cmp.Ordering.TheVariants.{Less}
use Rattle.std.proofs.Common.{false, refl, sym, subst, ◌∙◌, get_or, take, arith, Contains}
use Rattle.std.proofs.Math.ListN.{get_or-map}
use Rattle.std.proofs.lemmas.List.{length-map}
use Rattle.std.proofs.lemmas.List.Quantifiers.{position-Some}
use Rattle.std.proofs.lemmas.Bool.Decides.{nat_tests}
use Rattle.std.proofs.lemmas.Slice.Eq.{bytes_eq-Decides}
use Rattle.std.proofs.lemmas.List.{take-append-drop}
use Rattle.std.proofs.lemmas.Option.{get_or_from_slice_get, slice_get_within}
use Rattle.doc_types.specs.declared.cursor.Cursor.{Cursor}
use Rattle.doc_types.specs.declared.cursor.TheConstants.{NO_ROW}
use Rattle.doc_types.specs.declared.schema.TheConstants.{MAX_FIELDS}
use Rattle.doc_types.specs.declared.documents.DocRow.{DocRow}
use Rattle.doc_types.specs.declared.plain_index.WordRows.{WordRows}
use Rattle.doc_types.specs.Chunks.{rows_with, row_of, next_row, AreWordsOf, CursorPlace, IsCursorPlace}

-- a word with the rows that have it, of which there are some
pub record IsEntryOf (rows : List DocRow) (entry : WordRows) : Type 0 where
  pub is : entry.rows ≡ rows_with entry.word rows
  pub some : 0 < length entry.rows
  pub few : length entry.rows < 2 ^ 32
  pub within : All (λ row. row < length rows) entry.rows

-- all words of the rows, ascending, each with the rows that have it, and numbers that fit
pub record IsIndex (rows : List DocRow) (index : List WordRows) : Type 0 where
  pub ids : AllPairs (λ row later. row.doc.id < later.doc.id) rows
  pub few_rows : length rows < 2 ^ 32
  pub few_words : length index < 2 ^ 32
  pub few_fields : All (λ row. length row.doc.fields ≤ MAX_FIELDS) rows
  pub ascend : AllPairs (λ entry later. slice_cmp nat_cmp entry.word later.word ≡ Less) index
  pub each : All (IsEntryOf rows) index
  pub others : (word : List ℕ) → position (λ entry. bytes_eq entry.word word) index ≡ None → rows_with word rows ≡ []

-- the row at this place of a word's rows, or the number that stands for none
abbrev pub row_at : List ℕ → ℕ → ℕ
row_at rows at = unwrap_or (slice_get rows at) NO_ROW

-- the cursor's place is one of these rows or behind them, and its row is that one
pub record StandsAt (rows : List ℕ) (at row : ℕ) : Type 0 where
  pub within : at ≤ length rows
  pub here : row ≡ row_at rows at

-- the cursor stands for a word of the index and for a place among its rows
abbrev pub StandsIn : List WordRows → Cursor → Type 0
StandsIn index cursor = IsSomeAnd (slice_get index cursor.word) (λ entry. StandsAt entry.rows cursor.at cursor.index)

-- the place after so many rows of an entry
abbrev pub place_of : Option WordRows → ℕ → CursorPlace
place_of None count = record { word = []; ahead = [] }
place_of (Some entry) count = record { word = entry.word; ahead = drop count entry.rows }

-- the place that the cursor stands for
abbrev pub place_in : List WordRows → Cursor → CursorPlace
place_in index cursor = place_of (slice_get index cursor.word) cursor.at

-- an entry of the index is one of its rows
pub entry_there : (rows : List DocRow) (index : List WordRows) (word : ℕ) (entry : WordRows) → IsIndex rows index → slice_get index word ≡ Some entry → IsEntryOf rows entry
entry_there rows index word entry is e =
    subst (IsEntryOf rows) (get_or_from_slice_get index word entry entry e) (is.each word entry (slice_get_within index word entry e))

place_of-IsCursorPlace : (rows : List DocRow) (index : List WordRows) (cursor : Cursor) → IsIndex rows index → (found : Option WordRows) → slice_get index cursor.word ≡ found → IsSomeAnd found (λ entry. StandsAt entry.rows cursor.at cursor.index) → IsCursorPlace rows (place_of found cursor.at)
place_of-IsCursorPlace rows index cursor is None e stands = absurd stands
place_of-IsCursorPlace rows index cursor is (Some entry) e stands =
    let its : IsEntryOf rows entry = entry_there rows index cursor.word entry is e in
    record { some = subst (λ xs. 0 < length xs) its.is its.some; behind = take cursor.at entry.rows; both = take-append-drop cursor.at entry.rows ∙ its.is }

-- a cursor that stands in the index has a place among the rows
pub place_in-IsCursorPlace : (rows : List DocRow) (index : List WordRows) (cursor : Cursor) → IsIndex rows index → StandsIn index cursor → IsCursorPlace rows (place_in index cursor)
place_in-IsCursorPlace rows index cursor is stands = place_of-IsCursorPlace rows index cursor is (slice_get index cursor.word) refl stands

at_front : (xs : List ℕ) (n : ℕ) → slice_get (drop n xs) 0 ≡ slice_get xs n
at_front xs zero = refl
at_front [] (suc n) = refl
at_front (x ∷ xs) (suc n) = at_front xs n

-- the number of a row is below the one that stands for none
told : (xs : List ℕ) (at row : ℕ) (found : Option ℕ) → slice_get xs at ≡ found → All (λ x. x < NO_ROW) xs → row ≡ unwrap_or found NO_ROW → found ≡ row_of row
told xs at row None e small here = rw here refl
told xs at row (Some x) e small here =
    let low : x < NO_ROW = subst (λ y. y < NO_ROW) (get_or_from_slice_get xs at x x e) (small at x (slice_get_within xs at x e)) in
    let other : (x == NO_ROW) ≡ false = grind (arith, nat_tests) in
    rw (here, other) refl

place_of-row_of : (rows : List DocRow) (index : List WordRows) (cursor : Cursor) → IsIndex rows index → (found : Option WordRows) → slice_get index cursor.word ≡ found → IsSomeAnd found (λ entry. StandsAt entry.rows cursor.at cursor.index) → next_row (place_of found cursor.at) ≡ row_of cursor.index
place_of-row_of rows index cursor is None e stands = absurd stands
place_of-row_of rows index cursor is (Some entry) e stands =
    let its : IsEntryOf rows entry = entry_there rows index cursor.word entry is e in
    at_front entry.rows cursor.at ∙ told entry.rows cursor.at cursor.index (slice_get entry.rows cursor.at) refl (λ k d h. let low = its.within k d h in omega (arith, low, is.few_rows)) stands.here

-- its row is the next one of the place
pub place_in-row_of : (rows : List DocRow) (index : List WordRows) (cursor : Cursor) → IsIndex rows index → StandsIn index cursor → next_row (place_in index cursor) ≡ row_of cursor.index
place_in-row_of rows index cursor is stands = place_of-row_of rows index cursor is (slice_get index cursor.word) refl stands

word_at : (index : List WordRows) (k : ℕ) (d : List ℕ) → get_or (map (λ entry. entry.word) index) k d ≡ (get_or index k (record { word = d; rows = [] })).word
word_at index k d = get_or-map (λ (entry : WordRows). entry.word) index k (record { word = d; rows = [] })

contained : (rows : List DocRow) (index : List WordRows) → IsIndex rows index → (word : List ℕ) → 0 < length (rows_with word rows) → (found : Option ℕ) → position (λ entry. bytes_eq entry.word word) index ≡ found → Contains (map (λ entry. entry.word) index) word
contained rows index is word some None e = absurd (subst (λ xs. 0 < length xs → ⊥) (sym (is.others word e)) (λ h. omega arith) some)
contained rows index is word some (Some n) e =
    let its = position-Some (λ (entry : WordRows). bytes_eq entry.word word) index n (record { word = word; rows = [] }) e in
    (n, omega (arith, length-map index (λ (entry : WordRows). entry.word), its.0), word_at index n word ∙ (bytes_eq-Decides (get_or index n (record { word = word; rows = [] })).word word).0 its.1)

-- the words of the index are those of the rows
pub words-AreWordsOf : (rows : List DocRow) (index : List WordRows) → IsIndex rows index → AreWordsOf rows (map (λ entry. entry.word) index)
words-AreWordsOf rows index is = record {
  ascend = λ i j d l h.
      let low : j < length index = omega (arith, length-map index (λ (entry : WordRows). entry.word), h) in
      rw (word_at index i d, word_at index j d) (is.ascend i j (record { word = d; rows = [] }) l low);
  each = λ k d h.
      let low : k < length index = omega (arith, length-map index (λ (entry : WordRows). entry.word), h) in
      let its : IsEntryOf rows (get_or index k (record { word = d; rows = [] })) = is.each k (record { word = d; rows = [] }) low in
      rw (word_at index k d) (subst (λ xs. 0 < length xs) its.is its.some);
  all = λ word some. contained rows index is word some (position (λ (entry : WordRows). bytes_eq entry.word word) index) refl;
}
