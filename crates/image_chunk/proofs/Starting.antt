-- A cursor before all rows of a word.
use Rattle.std.proofs.Common.{◌≡◌, ℕ, ◌+◌, ◌-◌, ◌<◌, ◌≤◌, List, [], ◌∷◌, ◌++◌, Some, None, IsSome, length, take, drop, slice_get, refl, sym, ap, subst, ◌∙◌, arith, get_or, length-append}
use Rattle.std.specs.List.{position}
use Rattle.std.specs.Str.{bytes_eq}
use Rattle.std.proofs.lemmas.List.{drop-take, length-drop, length-map, take_at}
use Rattle.std.proofs.lemmas.List.Quantifiers.{position-Some}
use Rattle.std.proofs.lemmas.Slice.Eq.{bytes_eq-Decides}
use Rattle.std.proofs.lemmas.Option.{slice_get-get_or}
use Rattle.doc_types.specs.declared.cursor.Cursor.{Cursor}
use Rattle.doc_types.specs.declared.cursor.TheConstants.{NO_ROW}
use Rattle.doc_types.specs.declared.documents.DocRow.{DocRow}
use Rattle.doc_types.specs.Chunks.{CursorPlace, first_place, next_row, rows_from, rows_with}
use Rattle.chunk_image.specs.AlikeRows.{postings}
use Rattle.posting_codec.specs.PostingLists.{posting_list}
use Rattle.chunk_image.specs.ChunkImage.{postings_bytes, word_postings}
use Rattle.image_parts.specs.Images.{HaveImage}
use Rattle.image_chunk.proofs.Stepping.{number_some}
use Rattle.image_chunk.specs.Images.{Image}
use Rattle.image_chunk.specs.Places.{Entry, Here, IsList, Rising, StandsIn, list_in, place_in}
use Rattle.image_chunk.specs.steps.OneImage.{none_else, words_are}
use Rattle.image_chunk.specs.steps.CursorPlaces.{Stands, ahead_in, left_from, rising_in, rows_are, rows_in, stands_here}

-- what is seen of an image is the image
pub seen : (bytes : List ℕ) (is : Image bytes) (slice : List ℕ) → slice ≡ bytes → HaveImage is.0.0 is.0.1 slice
seen bytes is slice same = subst (HaveImage is.0.0 is.0.1) (sym same) is.1

-- a word that isn't among those of the image has no row
none_left : (rows : List ℕ) → (0 < length rows → ⊥) → rows ≡ []
none_left [] none = refl
none_left (row ∷ rows) none = absurd (none (omega arith))

pub none_there : (bytes : List ℕ) (is : Image bytes) (word : List ℕ) → position (λ w. bytes_eq w word) is.0.1 ≡ None → rows_with word is.0.0 ≡ []
none_there bytes is word missed = none_left (rows_with word is.0.0) (none_else bytes is word missed)

-- what is known of a word that was found
pub record IsFound (rows : List DocRow) (words : List (List ℕ)) (word : List ℕ) (n : ℕ) : Type 0 where
  pub within : n < length words
  pub there : slice_get words n ≡ Some word
  pub some : 0 < length (rows_with word rows)

pub is_found : (bytes : List ℕ) (is : Image bytes) (word : List ℕ) (n : ℕ) → position (λ w. bytes_eq w word) is.0.1 ≡ Some n → IsFound is.0.0 is.0.1 word n
is_found bytes is word n found =
    let its = position-Some (λ (w : List ℕ). bytes_eq w word) is.0.1 n word found in
    let same : get_or is.0.1 n word ≡ word = (bytes_eq-Decides (get_or is.0.1 n word) word).0 its.1 in
    record {
      within = its.0;
      there = slice_get-get_or is.0.1 n word its.0 ∙ ap Some same;
      some = subst (λ w. 0 < length (rows_with w is.0.0)) same ((words_are bytes is).each n word its.0);
    }

-- and of each word by its number
pub is_there : (bytes : List ℕ) (is : Image bytes) (n : ℕ) → n < length is.0.1 → IsFound is.0.0 is.0.1 (get_or is.0.1 n []) n
is_there bytes is n low = record { within = low; there = slice_get-get_or is.0.1 n [] low; some = (words_are bytes is).each n [] low }

-- so a row is next at the place before all its rows
pub first_next : (bytes : List ℕ) (is : Image bytes) (n : ℕ) (place : CursorPlace) → n < length is.0.1 → ((word : List ℕ) → slice_get is.0.1 n ≡ Some word → place ≡ first_place word is.0.0) → IsSome (next_row place)
first_next bytes is n place low first =
    let word = get_or is.0.1 n [] in
    let found = is_there bytes is n low in
    let next : next_row place ≡ Some (get_or (rows_with word is.0.0) 0 0) = ap next_row (first word found.there) ∙ slice_get-get_or (rows_with word is.0.0) 0 0 found.some in
    subst IsSome (sym next) refl

-- the list of a word in the image that ends where the list does
list_cut : (bytes list rest : List ℕ) (at end : ℕ) → drop at bytes ≡ list ++ rest → 0 < length list → end ≡ length bytes - length rest → drop at (take end bytes) ≡ list
list_cut bytes list rest at end here some ends =
    let long : length (drop at bytes) ≡ length list + length rest = ap length here ∙ length-append list rest in
    let size : end ≡ at + length list = omega (arith, long, some, length-drop at bytes, ends) in
    ap (λ e. drop at (take e bytes)) size ∙ drop-take at (length list) bytes ∙ ap (take (length list)) here ∙ take_at list rest (length list) refl

-- entries of which there are some, one by one
pub record Begins (entries : List Entry) : Type 0 where
  pub entry : Entry
  pub more : List Entry
  pub is : entries ≡ entry ∷ more

begun : (entries : List Entry) → 0 < length entries → Begins entries
begun [] some = absurd (omega (arith, some))
begun (entry ∷ more) some = record { entry = entry; more = more; is = refl }

entries_some : (word : List ℕ) (rows : List DocRow) → 0 < length (rows_with word rows) → 0 < length (postings word 0 rows)
entries_some word rows some = omega (arith, some, ap length (rows_are word rows), length-map (postings word 0 rows) (λ (entry : Entry). entry.0))

list_some : (entries : List Entry) → 0 < length entries → 0 < length (posting_list 0 entries)
list_some [] some = absurd (omega (arith, some))
list_some (entry ∷ more) some = omega (arith, length-append {A = ℕ}, number_some (entry.0 + 1 - 0))

module _ (bytes : List ℕ) (is : Image bytes) (word : List ℕ) (n : ℕ) (known : IsFound is.0.0 is.0.1 word n) (list : List ℕ) (same : list ≡ list_in is.0.0 is.0.1 bytes n) (at : ℕ)
    (here : drop at bytes ≡ word_postings is.0.0 word ++ postings_bytes is.0.0 (drop (n + 1) is.0.1)) where
  abbrev rows : List DocRow
  rows = is.0.0

  abbrev words : List (List ℕ)
  words = is.0.1

  rising : Rising 0 NO_ROW (postings word 0 rows)
  rising = rising_in bytes is word

  its : Begins (postings word 0 rows)
  its = begun (postings word 0 rows) (entries_some word rows known.some)

  spelled_in : drop at (list_in rows words bytes n) ≡ posting_list 0 (postings word 0 rows)
  unfolding word_postings
  spelled_in = list_cut bytes (posting_list 0 (postings word 0 rows)) (postings_bytes rows (drop (n + 1) words)) at (length bytes - length (postings_bytes rows (drop (n + 1) words))) here (list_some (postings word 0 rows) (entries_some word rows known.some)) refl

  spelled : drop at list ≡ posting_list 0 (its.entry ∷ its.more)
  spelled = ap (drop at) same ∙ spelled_in ∙ ap (posting_list 0) its.is

  rises : Rising 0 NO_ROW (its.entry ∷ its.more)
  rises = subst (Rising 0 NO_ROW) its.is rising

  -- its bytes are those of its posting list, to the end
  pub list_whole : drop at list ≡ word_postings rows word
  unfolding word_postings
  list_whole = ap (drop at) same ∙ spelled_in

  pub list_within : at ≤ length list
  list_within = omega (arith, ap length spelled, length-drop at list, list_some (its.entry ∷ its.more) (omega arith))

  pub is_list : IsList list at
  is_list = (its.entry, its.more, spelled, rises)

  module _ (place index : ℕ) (told : (entry : Entry) (entries : List Entry) → drop at list ≡ posting_list 0 (entry ∷ entries) → Rising 0 NO_ROW (entry ∷ entries) → Here list place index (entry ∷ entries)) where
    abbrev begin : Cursor
    begin = record { word = n; at = place; index = index }

    abbrev stands : Stands (list_in rows words bytes n) (postings word 0 rows) begin
    stands = record { behind = []; ahead = its.entry ∷ its.more; both = sym its.is; here = subst (λ l. Here l place index (its.entry ∷ its.more)) same (told its.entry its.more spelled rises) }

    ahead : rows_from index (rows_with word rows) ≡ rows_with word rows
    ahead = ahead_in rows word index ∙ ap rows_in (left_from (list_in rows words bytes n) (postings word 0 rows) begin rising stands ∙ sym its.is) ∙ rows_are word rows

    pub stands_first : StandsIn rows words bytes begin
    stands_first = rw known.there (stands_here (list_in rows words bytes n) (postings word 0 rows) begin rising stands)

    pub place_first : place_in rows words begin ≡ first_place word rows
    place_first = rw known.there (ap (λ all. record { word = word; ahead = all }) ahead)
