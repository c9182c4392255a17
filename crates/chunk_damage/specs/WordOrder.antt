-- The words of the dictionary, which ascend by their bytes.
use Rattle.std.specs.Prelude.{◌≡◌, ℕ, List, []}
use Rattle.std.specs.Cmp.Lexicographic.{slice_cmp}
use Rattle.std.specs.Ordering.{nat_cmp}
use Rattle.std.specs.declared.cmp.Ordering.TheVariants.{Less}
use Rattle.doc_types.specs.declared.schema.Schema.{Schema}
use Rattle.doc_types.specs.Documents.{IsWord}
use Rattle.chunk_image.specs.ChunkImage.{word_bytes}
use Rattle.item_lists.specs.Items.{AreAllItems, IsFirstWrong}
use Rattle.chunk_damage.specs.Header.{dictionary_part, words_in}

-- a word that may stand behind another one; the first stands behind none, which is as behind no bytes
pub record IsNextWord (before word : List ℕ) : Type 0 where
  pub is : IsWord word
  pub above : slice_cmp nat_cmp before word ≡ Less

abbrev pub and_word : List ℕ → List ℕ → List ℕ
and_word before word = word

abbrev pub bytes_of : List ℕ → List ℕ → List ℕ
bytes_of before word = word_bytes word

-- the dictionary is these words
abbrev pub AreOrdered : Schema → List ℕ → List (List ℕ) → Type 0
AreOrdered schema bytes words = AreAllItems bytes_of and_word IsNextWord (dictionary_part schema bytes) [] (words_in bytes) words

-- it isn't, first at this place of it
abbrev pub IsBadWord : Schema → List ℕ → ℕ → Type 0
IsBadWord schema bytes place = IsFirstWrong bytes_of and_word IsNextWord (dictionary_part schema bytes) [] (words_in bytes) place
