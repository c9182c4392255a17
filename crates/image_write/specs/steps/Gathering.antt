-- Words with their places, and how the places in one row become an entry.
use Rattle.std.specs.Prelude.{◌≡◌, ℕ, ◌+◌, ◌<◌, List, [], ◌∷◌, ◌==◌, None, All, AllPairs, length, map, if◌then◌else◌}
use Rattle.std.specs.List.{flat_map, position}
use Rattle.std.specs.Str.{bytes_eq}
use Rattle.std.specs.Cmp.Lexicographic.{slice_cmp}
use Rattle.std.specs.Ordering.{nat_cmp}
use Rattle.std.specs.declared.cmp.Ordering.TheVariants.{Less}
use Rattle.doc_types.specs.declared.documents.DocRow.{DocRow}
use Rattle.doc_types.specs.Chunks.{rows_with}
use Rattle.chunk_image.specs.AlikeRows.{postings}
use Rattle.posting_codec.specs.PostingLists.{IsEntry}

-- a row with the place of a word in it, and a row with all of them
abbrev pub Place : Type 0
Place = ℕ × (ℕ × ℕ)

abbrev pub Entry : Type 0
Entry = ℕ × List (ℕ × ℕ)

-- a word with its places, ascending
pub record WordPlaces : Type 0 where
  pub word : List ℕ
  pub places : List Place

-- all places of entries, one after the other
abbrev pub places_of : List Entry → List Place
places_of entries = flat_map (λ entry. map (λ hit. (entry.0, hit)) entry.1) entries

-- a place before entries: it is one of the first entry, where that is of its row
abbrev pub joined : Place → List Entry → List Entry
joined place [] = (place.0, place.1 ∷ []) ∷ []
joined place (entry ∷ entries) = if place.0 == entry.0 then (place.0, place.1 ∷ entry.1) ∷ entries else (place.0, place.1 ∷ []) ∷ entry ∷ entries

-- places by their rows
abbrev pub grouped : List Place → List Entry
grouped [] = []
grouped (place ∷ places) = joined place (grouped places)

-- entries that can be posted, the first of which is of this row at least
abbrev pub ArePostable : ℕ → List Entry → Type 0
ArePostable least [] = Unit {0}
ArePostable least (entry ∷ entries) = IsEntry least entry.0 entry.1 × ArePostable (entry.0 + 1) entries

-- the places of a word can be posted
pub record CanPost (entry : WordPlaces) : Type 0 where
  pub fits : ArePostable 0 (grouped entry.places)

-- a word of the rows with its places, which can be posted
pub record IsGathered (rows : List DocRow) (entry : WordPlaces) : Type 0 where
  pub is : grouped entry.places ≡ postings entry.word 0 rows
  pub some : 0 < length (rows_with entry.word rows)
  pub fits : ArePostable 0 (grouped entry.places)

-- all words of the rows, ascending, each with its places
pub record AreGathered (rows : List DocRow) (words : List WordPlaces) : Type 0 where
  pub ascend : AllPairs (λ entry later. slice_cmp nat_cmp entry.word later.word ≡ Less) words
  pub each : All (IsGathered rows) words
  pub others : (word : List ℕ) → position (λ entry. bytes_eq entry.word word) words ≡ None → rows_with word rows ≡ []
