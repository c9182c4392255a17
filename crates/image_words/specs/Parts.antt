-- A dictionary and its word table by themselves, where image and schema are left aside.
use Rattle.std.specs.Prelude.{ℕ, List, []}
use Rattle.item_lists.specs.Items.{AreAllItems, IsFirstWrong}
use Rattle.chunk_damage.specs.WordTable.{IsEntered, and_word, bytes_of}
use Rattle.chunk_damage.specs.WordOrder.{IsNextWord, and_word as and_ordered, bytes_of as ordered_bytes}

-- the dictionary is these words, each with its entry of the table
abbrev pub AreEnteredIn : List ℕ → List ℕ → ℕ → ℕ → List ℕ → List (List ℕ) → Type 0
AreEnteredIn table postings rows words dictionary list = AreAllItems bytes_of and_word (IsEntered table postings rows) dictionary (0, 0) words list

-- it isn't, first at this place of the dictionary
abbrev pub IsBadEntryIn : List ℕ → List ℕ → ℕ → ℕ → List ℕ → ℕ → Type 0
IsBadEntryIn table postings rows words dictionary place = IsFirstWrong bytes_of and_word (IsEntered table postings rows) dictionary (0, 0) words place

-- the dictionary is these words, which ascend
abbrev pub AreOrderedIn : ℕ → List ℕ → List (List ℕ) → Type 0
AreOrderedIn words dictionary list = AreAllItems ordered_bytes and_ordered IsNextWord dictionary [] words list

-- it isn't, first at this place of it
abbrev pub IsBadWordIn : ℕ → List ℕ → ℕ → Type 0
IsBadWordIn words dictionary place = IsFirstWrong ordered_bytes and_ordered IsNextWord dictionary [] words place
