-- Where a cursor of an image stands, and where it stands after a step.
use Rattle.std.proofs.Common.{◌≡◌, ℕ, ◌+◌, ◌<◌, ◌≤◌, ◌^◌, ◌==◌, true, false, cond, List, [], ◌∷◌, ◌++◌, Option, Some, None, IfNone, IsSome, IsSomeAnd, length, drop, slice_get, refl, sym, ap, subst, ◌∙◌, arith, append_assoc}
use Rattle.std.specs.Prelude.{nat_lt}
use Rattle.std.proofs.Math.Logic.{∥∥₁_elim}
use Rattle.std.proofs.lemmas.Bool.{lt-ltb, ltb-true}
use Rattle.std.proofs.lemmas.Bool.Decides.{nat_tests}
use Rattle.std.specs.Coded.{le_prop}
use Rattle.std.proofs.lemmas.Option.{slice_get_within}
use Rattle.std.proofs.lemmas.List.{length-take}
use Rattle.doc_types.specs.declared.cursor.Cursor.{Cursor}
use Rattle.doc_types.specs.declared.cursor.TheConstants.{NO_ROW}
use Rattle.doc_types.specs.declared.documents.DocRow.{DocRow}
use Rattle.doc_types.specs.Chunks.{CursorPlace, next_row, next_place, place_from, row_of, rows_from, rows_with}
use Rattle.chunk_image.specs.AlikeRows.{postings}
use Rattle.posting_codec.specs.HitLists.{AreHits}
use Rattle.image_chunk.specs.Images.{Image}
use Rattle.image_chunk.specs.Places.{Entry, Here, IsHere, Rising, StandsIn, entries_from, list_in, place_of, place_in}
use Rattle.image_chunk.specs.steps.CursorPlaces.{Stands, ahead_in, left_from, place_in-row_of, rising_in, rows_in, stands_here, stands_of}

-- behind a front the rest rises too
pub rest_rises : (least most : ℕ) (behind : List Entry) (entry : Entry) (entries : List Entry) → Rising least most (behind ++ entry ∷ entries) → (entry.0 < most) × AreHits entry.1 × Rising (entry.0 + 1) most entries
rest_rises least most [] entry entries rising = (rising.1, rising.2, rising.3)
rest_rises least most (e ∷ behind) entry entries rising = rest_rises (e.0 + 1) most behind entry entries rising.3

-- what is known of a cursor at which a row is left
pub record Stood (rows : List DocRow) (word list : List ℕ) (at index : ℕ) : Type 0 where
  pub behind : List Entry
  pub entry : Entry
  pub entries : List Entry
  pub both : behind ++ entry ∷ entries ≡ postings word 0 rows
  pub here : Here list at index (entry ∷ entries)
  pub hits : AreHits entry.1
  pub rises : Rising (entry.0 + 1) NO_ROW entries
  pub ahead : rows_from index (rows_with word rows) ≡ entry.0 ∷ rows_in entries

stood_by : (rows : List DocRow) (word list : List ℕ) (cursor : Cursor) → Rising 0 NO_ROW (postings word 0 rows) → (cursor.index ≡ NO_ROW → ⊥) → (behind ahead : List Entry) → behind ++ ahead ≡ postings word 0 rows → Here list cursor.at cursor.index ahead → Stood rows word list cursor.at cursor.index
stood_by rows word list cursor rising left behind [] both here = absurd (left here)
stood_by rows word list cursor rising left behind (entry ∷ entries) both here =
    let its = rest_rises 0 NO_ROW behind entry entries (subst (Rising 0 NO_ROW) (sym both) rising) in
    record {
      behind = behind;
      entry = entry;
      entries = entries;
      both = both;
      here = here;
      hits = its.1;
      rises = its.2;
      ahead = ahead_in rows word cursor.index ∙ ap rows_in (left_from list (postings word 0 rows) cursor rising (record { behind = behind; ahead = entry ∷ entries; both = both; here = here }));
    }

pub stood : (rows : List DocRow) (word list : List ℕ) (cursor : Cursor) → Rising 0 NO_ROW (postings word 0 rows) → (cursor.index ≡ NO_ROW → ⊥) → Stands list (postings word 0 rows) cursor → Stood rows word list cursor.at cursor.index
stood rows word list cursor rising left s = stood_by rows word list cursor rising left s.behind s.ahead s.both s.here

-- what is known of a cursor that has a row ahead, and of the one that a step leaves
pub record GoesOn (rows : List DocRow) (words : List (List ℕ)) (bytes list : List ℕ) (cursor : Cursor) : Type 0 where
  pub word : List ℕ
  pub there : slice_get words cursor.word ≡ Some word
  pub stood : Stood rows word list cursor.at cursor.index
  pub here : IsHere list cursor.at cursor.index
  pub left : (place_in rows words cursor).ahead ≡ [] → ⊥
  pub stays : (at index : ℕ) → ((entry : Entry) (entries : List Entry) → Here list cursor.at cursor.index (entry ∷ entries) → Rising (entry.0 + 1) NO_ROW entries → Here list at index entries) → StandsIn rows words bytes (record { word = cursor.word; at = at; index = index })
  pub next : (at index : ℕ) → ((entry : Entry) (entries : List Entry) → Here list cursor.at cursor.index (entry ∷ entries) → Rising (entry.0 + 1) NO_ROW entries → Here list at index entries) → place_in rows words (record { word = cursor.word; at = at; index = index }) ≡ next_place (place_in rows words cursor)

module _ (rows : List DocRow) (words : List (List ℕ)) (bytes : List ℕ) (cursor : Cursor) (word : List ℕ) (there : slice_get words cursor.word ≡ Some word)
    (rising : Rising 0 NO_ROW (postings word 0 rows)) (s : Stands (list_in rows words bytes cursor.word) (postings word 0 rows) cursor) (left : cursor.index ≡ NO_ROW → ⊥) where
  abbrev list : List ℕ
  list = list_in rows words bytes cursor.word

  it : Stood rows word list cursor.at cursor.index
  it = stood rows word list cursor rising left s

  module _ (at index : ℕ) (step : (entry : Entry) (entries : List Entry) → Here list cursor.at cursor.index (entry ∷ entries) → Rising (entry.0 + 1) NO_ROW entries → Here list at index entries) where
    abbrev moved : Cursor
    moved = record { word = cursor.word; at = at; index = index }

    abbrev stands_on : Stands list (postings word 0 rows) moved
    stands_on = record { behind = it.behind ++ it.entry ∷ []; ahead = it.entries; both = append_assoc it.behind (it.entry ∷ []) it.entries ∙ it.both; here = step it.entry it.entries it.here it.rises }

    place_on : place_of rows (Some word) index ≡ next_place (place_of rows (Some word) cursor.index)
    place_on = ap (λ all. record { word = word; ahead = all }) (ahead_in rows word index ∙ ap rows_in (left_from list (postings word 0 rows) moved rising stands_on) ∙ ap (drop 1) (sym it.ahead))

  goes_at : GoesOn rows words bytes list cursor
  goes_at = record {
    word = word;
    there = there;
    stood = it;
    here = (it.entry, it.entries, it.here, it.hits, it.rises);
    left = λ none. let e : it.entry.0 ∷ rows_in it.entries ≡ [] = sym it.ahead ∙ subst (λ found. (place_of rows found cursor.index).ahead ≡ []) there none in absurd cc;
    stays = λ at index step. rw there (stands_here list (postings word 0 rows) (moved at index step) rising (stands_on at index step));
    next = λ at index step. rw there (place_on at index step);
  }

goes_by : (bytes : List ℕ) (is : Image bytes) (cursor : Cursor) (found : Option (List ℕ)) → slice_get is.0.1 cursor.word ≡ found → IsSomeAnd found (λ word. Here (list_in is.0.0 is.0.1 bytes cursor.word) cursor.at cursor.index (entries_from cursor.index (postings word 0 is.0.0))) → (cursor.index ≡ NO_ROW → ⊥) → GoesOn is.0.0 is.0.1 bytes (list_in is.0.0 is.0.1 bytes cursor.word) cursor
goes_by bytes is cursor None there s left = absurd s
goes_by bytes is cursor (Some word) there s left = goes_at is.0.0 is.0.1 bytes cursor word there (rising_in bytes is word) (stands_of (list_in is.0.0 is.0.1 bytes cursor.word) (postings word 0 is.0.0) cursor s) left

pub goes_on : (bytes : List ℕ) (is : Image bytes) (cursor : Cursor) (list : List ℕ) → list ≡ list_in is.0.0 is.0.1 bytes cursor.word → StandsIn is.0.0 is.0.1 bytes cursor → (cursor.index ≡ NO_ROW → ⊥) → GoesOn is.0.0 is.0.1 bytes list cursor
goes_on bytes is cursor its same s left = subst (λ l. GoesOn is.0.0 is.0.1 bytes l cursor) (sym same) (goes_by bytes is cursor (slice_get is.0.1 cursor.word) refl s left)

-- the word of a cursor is one of the image
pub word_within : (words : List (List ℕ)) (n : ℕ) (P : List ℕ → Type 0) → IsSomeAnd (slice_get words n) P → n < length words
word_within words n P s = within (slice_get words n) refl s where
  within : (found : Option (List ℕ)) → slice_get words n ≡ found → IsSomeAnd found P → n < length words
  within None e s = absurd s
  within (Some word) e s = slice_get_within words n word e

-- no list of an image is too long
pub image_small : (bytes : List ℕ) → Image bytes → length bytes ≤ 536870912
image_small bytes is = ∥∥₁_elim is.1 le_prop (λ x. x.short)

pub list_small : (bytes : List ℕ) (is : Image bytes) (n : ℕ) (list : List ℕ) → list ≡ list_in is.0.0 is.0.1 bytes n → length list < 2 ^ 31
list_small bytes is n list same = omega (arith, ap length same, length-take {A = ℕ}, image_small bytes is)

empty : (xs : List ℕ) → slice_get xs 0 ≡ None → xs ≡ []
empty [] e = refl
empty (x ∷ xs) e = cc

-- where the row stands for none, none is ahead
pub none_ahead : (place : CursorPlace) → next_row place ≡ None → place.ahead ≡ []
none_ahead place e = empty place.ahead e

pub if_none : (row : Option ℕ) (place : CursorPlace) → row ≡ next_row place → IfNone row (place.ahead ≡ [])
if_none None place e = none_ahead place (sym e)
if_none (Some row) place e = tt

-- a cursor at its end is at the place behind it
pub at_its_end : (bytes : List ℕ) (is : Image bytes) (cursor : Cursor) → StandsIn is.0.0 is.0.1 bytes cursor → cursor.index ≡ NO_ROW → place_in is.0.0 is.0.1 cursor ≡ next_place (place_in is.0.0 is.0.1 cursor)
at_its_end bytes is cursor stands end =
    let none : next_row (place_in is.0.0 is.0.1 cursor) ≡ None = place_in-row_of bytes is cursor stands ∙ ap row_of end in
    let place : CursorPlace = place_in is.0.0 is.0.1 cursor in
    let ahead : place.ahead ≡ [] = none_ahead place none in
    ap (λ (ahead : List ℕ). record { word = place.word; ahead = ahead }) (ahead ∙ ap (drop 1) (sym ahead))

-- a cursor with a next row isn't at its end
pub not_at_end : (bytes : List ℕ) (is : Image bytes) (cursor : Cursor) → StandsIn is.0.0 is.0.1 bytes cursor → IsSome (next_row (place_in is.0.0 is.0.1 cursor)) → cursor.index ≡ NO_ROW → ⊥
not_at_end bytes is cursor stands some end =
    let none : next_row (place_in is.0.0 is.0.1 cursor) ≡ None = place_in-row_of bytes is cursor stands ∙ ap row_of end in
    let clash : false ≡ true = subst IsSome none some in absurd cc

-- and one that isn't has one
pub left_next : (bytes : List ℕ) (is : Image bytes) (cursor : Cursor) → StandsIn is.0.0 is.0.1 bytes cursor → (cursor.index ≡ NO_ROW → ⊥) → IsSome (next_row (place_in is.0.0 is.0.1 cursor))
left_next bytes is cursor stands left =
    let other : (cursor.index == NO_ROW) ≡ false = grind (arith, nat_tests) in
    let some : IsSome (row_of cursor.index) = rw other refl in
    subst IsSome (sym (place_in-row_of bytes is cursor stands)) some

pub goes_open : (bytes : List ℕ) (is : Image bytes) (cursor : Cursor) (list : List ℕ) → list ≡ list_in is.0.0 is.0.1 bytes cursor.word → StandsIn is.0.0 is.0.1 bytes cursor → IsSome (next_row (place_in is.0.0 is.0.1 cursor)) → GoesOn is.0.0 is.0.1 bytes list cursor
goes_open bytes is cursor list same stands some = goes_on bytes is cursor list same stands (not_at_end bytes is cursor stands some)

-- two cursors of a word, none behind a row, have the same rows from it on
pub from_both : (first row : ℕ) (rows : List ℕ) → first ≤ row → rows_from row (rows_from first rows) ≡ rows_from row rows
from_both first row [] low = refl
from_both first row (r ∷ rs) low =
    elim (nat_lt r first) as (λ b. nat_lt r first ≡ b → rows_from row (cond b (rows_from first rs) (r ∷ rs)) ≡ rows_from row (r ∷ rs)) [
      | true ↦ λ test. from_both first row rs low ∙ sym (rw (lt-ltb r row (omega (arith, ltb-true r first test, low))) refl)
      | false ↦ λ test. refl
    ] refl

from_place : (rows : List DocRow) (found : Option (List ℕ)) (a b row : ℕ) → a ≤ row → b ≤ row → place_from row (place_of rows found a) ≡ place_from row (place_of rows found b)
from_place rows None a b row low its_low = refl
from_place rows (Some word) a b row low its_low = ap (λ ahead. record { word = word; ahead = ahead }) (from_both a row (rows_with word rows) low ∙ sym (from_both b row (rows_with word rows) its_low))

pub leapt : (rows : List DocRow) (words : List (List ℕ)) (a b : Cursor) (row : ℕ) → a.word ≡ b.word → a.index ≤ row → b.index ≤ row → place_from row (place_in rows words a) ≡ place_from row (place_in rows words b)
leapt rows words a b row same low its_low = ap (λ n. place_from row (place_of rows (slice_get words n) a.index)) same ∙ from_place rows (slice_get words b.word) a.index b.index row low its_low
