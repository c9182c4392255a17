-- The postings: of each word its list, which has as many entries as the word table says.
use Rattle.std.specs.Prelude.{◌≡◌, ℕ, ◌+◌, ◌<◌, List, [], ◌∷◌, length}
use Rattle.doc_types.specs.declared.schema.Schema.{Schema}
use Rattle.posting_codec.specs.PostingLists.{IsEntry, posting_list}
use Rattle.item_lists.specs.Items.{AreAllItems, IsFirstWrong}
use Rattle.chunk_damage.specs.Header.{postings_part, rows_in, table_part, words_in}
use Rattle.chunk_damage.specs.WordTable.{row_count}

-- a row with the places of a word in it
abbrev pub Entry : Type 0
Entry = ℕ × List (ℕ × ℕ)

-- entries of rows that ascend, from this one on and below that one
abbrev pub AreEntries : ℕ → ℕ → List Entry → Type 0
AreEntries rows least [] = Unit {0}
AreEntries rows least (entry ∷ entries) = IsEntry least entry.0 entry.1 × (entry.0 < rows) × AreEntries rows (entry.0 + 1) entries

-- the list of the word of this number
pub record IsList (table : List ℕ) (rows n : ℕ) (entries : List Entry) : Type 0 where
  pub counted : length entries ≡ row_count table n
  pub are : AreEntries rows 0 entries

abbrev pub and_list : ℕ → List Entry → ℕ
and_list n entries = n + 1

abbrev pub bytes_of : ℕ → List Entry → List ℕ
bytes_of n entries = posting_list 0 entries

-- the postings are these lists
abbrev pub AreLists : Schema → List ℕ → List (List Entry) → Type 0
AreLists schema bytes lists = AreAllItems bytes_of and_list (IsList (table_part schema bytes) (rows_in bytes)) (postings_part schema bytes) 0 (words_in bytes) lists

-- they aren't, first at this place of them
abbrev pub IsBadList : Schema → List ℕ → ℕ → Type 0
IsBadList schema bytes place = IsFirstWrong bytes_of and_list (IsList (table_part schema bytes) (rows_in bytes)) (postings_part schema bytes) 0 (words_in bytes) place
