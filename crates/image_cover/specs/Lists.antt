-- Posting lists of a part of an image, and the places of their hits.
use Rattle.std.specs.Prelude.{◌≡◌, ℕ, List, ◌++◌, length, drop, map}
use Rattle.std.specs.List.{flat_map}
use Rattle.posting_codec.specs.PostingLists.{posting_list}
use Rattle.item_lists.specs.Items.{AreAllItems, IsFirstWrong}
use Rattle.chunk_damage.specs.WordLists.{AreEntries, Entry, IsList, and_list, bytes_of}
use Rattle.image_cover.specs.Places.{own_at, place_in}

-- so many entries are spelled at this place, before the rest of the bytes
pub record AreEntriesAt (bytes : List ℕ) (at rows least count : ℕ) (entries : List Entry) (rest : List ℕ) : Type 0 where
  pub counted : length entries ≡ count
  pub are : AreEntries rows least entries
  pub here : drop at bytes ≡ posting_list least entries ++ rest

-- the places of an entry's hits, of all hits of some entries, and of those of some lists
abbrev pub places_of : List ℕ → ℕ → Entry → List (ℕ × ℕ)
places_of starts width entry = map (place_in entry.0 (own_at starts width entry.0)) entry.1

abbrev pub places_in : List ℕ → ℕ → List Entry → List (ℕ × ℕ)
places_in starts width entries = flat_map (places_of starts width) entries

abbrev pub places_of_lists : List ℕ → ℕ → List (List Entry) → List (ℕ × ℕ)
places_of_lists starts width lists = flat_map (places_in starts width) lists

-- the postings are the lists of so many words
abbrev pub AreListsIn : List ℕ → ℕ → ℕ → List ℕ → List (List Entry) → Type 0
AreListsIn table rows words postings lists = AreAllItems bytes_of and_list (IsList table rows) postings 0 words lists

-- they aren't, first at this place
abbrev pub IsBadListIn : List ℕ → ℕ → ℕ → List ℕ → ℕ → Type 0
IsBadListIn table rows words postings place = IsFirstWrong bytes_of and_list (IsList table rows) postings 0 words place
