-- How the place of a cursor of a plain chunk moves.
use Rattle.std.proofs.Common.{◌≡◌, ℕ, ◌+◌, ◌<◌, ◌≤◌, ◌^◌, List, [], ◌∷◌, Option, Some, None, length, refl, sym, ap, subst, ◌∙◌, arith, slice_get, unwrap_or, get_or, drop}
use Rattle.std.proofs.lemmas.List.{drop-drop, length-drop}
use Rattle.std.proofs.Math.ListN.{drop_of_length-le}
use Rattle.std.specs.List.{position}
use Rattle.std.specs.Str.{bytes_eq}
use Rattle.std.proofs.lemmas.List.Quantifiers.{position-Some}
use Rattle.std.proofs.lemmas.Slice.Eq.{bytes_eq-Decides}
use Rattle.std.proofs.lemmas.Option.{slice_get-get_or, slice_get_within}
use Rattle.doc_types.specs.declared.documents.DocRow.{DocRow}
use Rattle.doc_types.specs.declared.plain_index.WordRows.{WordRows}
use Rattle.doc_types.specs.declared.cursor.Cursor.{Cursor}
use Rattle.doc_types.specs.declared.cursor.TheConstants.{NO_ROW}
use Rattle.doc_types.specs.Chunks.{CursorPlace, next_place, next_row, row_of, first_place, rows_with}
use Rattle.doc_types.specs.steps.PlainIndex.{entry_there, place_of, place_in, place_in-row_of, row_at, StandsIn, IsEntryOf, IsIndex}

pub moved_on : (found : Option WordRows) (entry : WordRows) (n : ℕ) → found ≡ Some entry → place_of found (n + 1) ≡ next_place (place_of found n)
moved_on found entry n e = rw e (ap (λ rows. record { word = entry.word; ahead = rows }) (sym (drop-drop 1 n entry.rows)))

pub stays_at_end : (found : Option WordRows) (entry : WordRows) (n : ℕ) → found ≡ Some entry → length entry.rows ≤ n → place_of found n ≡ next_place (place_of found n)
stays_at_end found entry n e past = rw e (ap (λ rows. record { word = entry.word; ahead = rows }) (rw (drop_of_length-le entry.rows {i = n} past) refl))

-- a row is left as long as the count is below that of the rows
pub some_left : (found : Option WordRows) (entry : WordRows) (n : ℕ) → found ≡ Some entry → n < length entry.rows → (place_of found n).ahead ≡ [] → ⊥
some_left found entry n e below none =
    let left : length (drop n entry.rows) ≡ 0 = ap length (rw e at none) in
    omega (arith, below, left, length-drop n entry.rows)

among : (xs : List ℕ) (at row : ℕ) (found : Option ℕ) → slice_get xs at ≡ found → row ≡ unwrap_or found NO_ROW → (row ≡ NO_ROW → ⊥) → at < length xs
among xs at row None e here some = absurd (some here)
among xs at row (Some x) e here some = slice_get_within xs at x e

-- what is so of a cursor that has a row ahead, and of the one that went over it
pub record GoesOn (index : List WordRows) (cursor : Cursor) (entry : WordRows) : Type 0 where
  pub few : cursor.at + 1 < 2 ^ 32
  pub stands : (row : ℕ) → row ≡ row_at entry.rows (cursor.at + 1) → StandsIn index (record { word = cursor.word; at = cursor.at + 1; index = row })
  pub place : (row : ℕ) → place_in index (record { word = cursor.word; at = cursor.at + 1; index = row }) ≡ next_place (place_in index cursor)
  pub left : (place_in index cursor).ahead ≡ [] → ⊥

pub goes_on : (rows : List DocRow) (index slice : List WordRows) (cursor : Cursor) (entry : WordRows) → IsIndex rows index → slice ≡ index → slice_get slice cursor.word ≡ Some entry → cursor.index ≡ row_at entry.rows cursor.at → (cursor.index ≡ NO_ROW → ⊥) → GoesOn index cursor entry
goes_on rows index slice cursor entry is e at here some =
    let there : slice_get index cursor.word ≡ Some entry = ap (λ (its : List WordRows). slice_get its cursor.word) (sym e) ∙ at in
    let its : IsEntryOf rows entry = entry_there rows index cursor.word entry is there in
    let low : cursor.at < length entry.rows = among entry.rows cursor.at cursor.index (slice_get entry.rows cursor.at) refl here some in
    record {
      few = omega (arith, low, its.few);
      stands = λ row its_row. rw there (record { within = omega (arith, low); here = its_row });
      place = λ row. moved_on (slice_get index cursor.word) entry cursor.at there;
      left = some_left (slice_get index cursor.word) entry cursor.at there low;
    }

empty : (xs : List ℕ) → slice_get xs 0 ≡ None → xs ≡ drop 1 xs
empty [] e = refl
empty (x ∷ xs) e = cc

-- a cursor at its end is at the place behind it
pub at_its_end : (rows : List DocRow) (index : List WordRows) (cursor : Cursor) → IsIndex rows index → StandsIn index cursor → cursor.index ≡ NO_ROW → place_in index cursor ≡ next_place (place_in index cursor)
at_its_end rows index cursor is stands end =
    let none : next_row (place_in index cursor) ≡ None = place_in-row_of rows index cursor is stands ∙ ap row_of end in
    let place : CursorPlace = place_in index cursor in
    ap (λ (ahead : List ℕ). record { word = place.word; ahead = ahead }) (empty place.ahead none)

-- what is so of the entry that a search for a word found
pub record Starts (rows : List DocRow) (index : List WordRows) (word : List ℕ) (n : ℕ) (entry : WordRows) : Type 0 where
  pub some : 0 < length (rows_with word rows)
  pub few : length entry.rows < 2 ^ 32
  pub count : length entry.rows ≡ length (rows_with word rows)
  pub stands : (row : ℕ) → row ≡ row_at entry.rows 0 → StandsIn index (record { word = n; at = 0; index = row })
  pub place : (row : ℕ) → place_in index (record { word = n; at = 0; index = row }) ≡ first_place word rows

starting : (rows : List DocRow) (index : List WordRows) (word : List ℕ) (n : ℕ) (entry : WordRows) → IsIndex rows index → position (λ entry. bytes_eq entry.word word) index ≡ Some n → entry ≡ get_or index n entry → Starts rows index word n entry
starting rows index word n entry is found at =
    let its = position-Some (λ (entry : WordRows). bytes_eq entry.word word) index n entry found in
    let there : slice_get index n ≡ Some entry = slice_get-get_or index n entry its.0 ∙ ap Some (sym at) in
    let kept : IsEntryOf rows entry = entry_there rows index n entry is there in
    let same : entry.word ≡ word = (bytes_eq-Decides entry.word word).0 (ap (λ (it : WordRows). bytes_eq it.word word) at ∙ its.1) in
    let all : entry.rows ≡ rows_with word rows = kept.is ∙ ap (λ w. rows_with w rows) same in
    record {
      some = subst (λ xs. 0 < length xs) all kept.some;
      few = kept.few;
      count = ap length all;
      stands = λ row its_row. rw there (record { within = omega arith; here = its_row });
      place = λ row. rw there (λ i. record { word = same i; ahead = all i });
    }

-- the same for what was found in a slice of the index
pub starts_at : (rows : List DocRow) (index slice : List WordRows) (word : List ℕ) (n : ℕ) (entry : WordRows) → IsIndex rows index → slice ≡ index → position (λ entry. bytes_eq entry.word word) slice ≡ Some n → entry ≡ get_or slice n entry → Starts rows index word n entry
starts_at rows index slice word n entry is e found at =
    starting rows index word n entry is (sym (ap (position (λ (entry : WordRows). bytes_eq entry.word word)) e) ∙ found) (at ∙ ap (λ (its : List WordRows). get_or its n entry) e)

pub none_there : (rows : List DocRow) (index slice : List WordRows) (word : List ℕ) → IsIndex rows index → slice ≡ index → position (λ entry. bytes_eq entry.word word) slice ≡ None → rows_with word rows ≡ []
none_there rows index slice word is e found = is.others word (sym (ap (position (λ (entry : WordRows). bytes_eq entry.word word)) e) ∙ found)
