-- The word table: of each word of the dictionary where it stands there, how many rows have it, and where its posting list stands.
-- Lists are found here by the heads of their entries alone.
use Rattle.std.specs.Prelude.{◌≡◌, ℕ, ◌+◌, ◌*◌, ◌<◌, ◌≤◌, ◌^◌, List, ◌++◌, length}
use Rattle.doc_types.specs.declared.schema.Schema.{Schema}
use Rattle.posting_codec.specs.Numbers.{number}
use Rattle.chunk_image.specs.ChunkImage.{word_bytes}
use Rattle.item_lists.specs.Items.{AllFit, AreAllItems, IsFirstWrong, spelled}
use Rattle.chunk_damage.specs.Header.{dictionary_part, four_in, postings_part, rows_in, table_part, words_in}

-- what the entry of a word says: its place in the dictionary, how many rows have it, and the place of its posting list
abbrev pub word_place : List ℕ → ℕ → ℕ
word_place table n = four_in table (12 * n)

abbrev pub row_count : List ℕ → ℕ → ℕ
row_count table n = four_in table (12 * n + 4)

abbrev pub list_place : List ℕ → ℕ → ℕ
list_place table n = four_in table (12 * n + 8)

-- an entry of a posting list by its head, which is the distance of its row and a length, and so many bytes
abbrev pub Headed : Type 0
Headed = ℕ × List ℕ

abbrev pub headed_bytes : Unit {0} → Headed → List ℕ
headed_bytes _ entry = number entry.0 ++ (number (length entry.1) ++ entry.1)

abbrev pub and_entry : Unit {0} → Headed → Unit {0}
and_entry _ entry = tt

pub record IsHeaded (_ : Unit {0}) (entry : Headed) : Type 0 where
  pub distance : entry.0 < 2 ^ 32
  pub size : length entry.1 < 2 ^ 32

-- the list of the word of this number: as many such entries as rows have the word
abbrev pub headed_list : ℕ → List Headed → List ℕ
headed_list n entries = spelled headed_bytes and_entry tt entries

abbrev pub and_list : ℕ → List Headed → ℕ
and_list n entries = n + 1

pub record IsHeadedList (table : List ℕ) (n : ℕ) (entries : List Headed) : Type 0 where
  pub counted : length entries ≡ row_count table n
  pub fit : AllFit and_entry IsHeaded tt entries

-- the lists of so many words end at this place of the postings
pub record EndAt (table postings : List ℕ) (words place : ℕ) : Type 0 where
  pub lists : List (List Headed)
  pub rest : List ℕ
  pub counted : length lists ≡ words
  pub fit : AllFit and_list (IsHeadedList table) 0 lists
  pub is : postings ≡ spelled headed_list and_list 0 lists ++ rest
  pub place_is : place ≡ length (spelled headed_list and_list 0 lists)

-- how many words come before, and how many bytes of the dictionary they take
abbrev pub Before : Type 0
Before = ℕ × ℕ

abbrev pub and_word : Before → List ℕ → Before
and_word before word = (before.0 + 1, before.1 + 1 + length word)

abbrev pub bytes_of : Before → List ℕ → List ℕ
bytes_of before word = word_bytes word

-- A word with its entry: the entry says the place behind the words before, a number of rows that may be, and the place behind the
-- lists before; where these have no end, the place of the list isn't looked at.
pub record IsEntered (table postings : List ℕ) (rows : ℕ) (before : Before) (word : List ℕ) : Type 0 where
  pub short : length word < 256
  pub place : word_place table before.0 ≡ before.1
  pub some : 1 ≤ row_count table before.0
  pub many : row_count table before.0 ≤ rows
  pub list : (place : ℕ) → EndAt table postings before.0 place → list_place table before.0 ≡ place

-- the dictionary is these words, each with its entry
abbrev pub AreEntered : Schema → List ℕ → List (List ℕ) → Type 0
AreEntered schema bytes words = AreAllItems bytes_of and_word (IsEntered (table_part schema bytes) (postings_part schema bytes) (rows_in bytes)) (dictionary_part schema bytes) (0, 0) (words_in bytes) words

-- it isn't, and the entry of this number is the first that is wrong
pub record IsBadEntry (schema : Schema) (bytes : List ℕ) (n : ℕ) : Type 0 where
  pub place : ℕ
  pub wrong : IsFirstWrong bytes_of and_word (IsEntered (table_part schema bytes) (postings_part schema bytes) (rows_in bytes)) (dictionary_part schema bytes) (0, 0) (words_in bytes) place
  pub number_is : n ≡ length wrong.before
