-- Entries by their heads at a place, where lists end by them, and a word with its entry at a place.
use Rattle.std.specs.Prelude.{◌≡◌, ℕ, ◌+◌, ◌*◌, ◌<◌, ◌≤◌, List, ◌++◌, Option, Some, None, IfSome, length, drop}
use Rattle.chunk_image.specs.ChunkImage.{word_bytes}
use Rattle.item_lists.specs.steps.Places.{AreItemsAt}
use Rattle.chunk_damage.specs.Header.{four_in}
use Rattle.chunk_damage.specs.WordTable.{EndAt, Headed, IsHeaded, and_entry, headed_bytes, row_count}

-- so many entries by their heads
abbrev pub AreHeadedAt : List ℕ → ℕ → ℕ → List Headed → List ℕ → Type 0
AreHeadedAt postings at count entries rest = AreItemsAt headed_bytes and_entry IsHeaded postings at tt count entries rest

-- this is where the lists of so many words end by their heads, or they have no such end
abbrev pub ListEnds : List ℕ → List ℕ → ℕ → Option ℕ → Type 0
ListEnds table postings words None = (place : ℕ) → EndAt table postings words place → ⊥
ListEnds table postings words (Some place) = EndAt table postings words place

-- a word at a place of the dictionary, with its entry, where this is where its list begins
pub record IsWordAt (table dictionary : List ℕ) (rows n at : ℕ) (behind : Option ℕ) (word rest : List ℕ) : Type 0 where
  pub short : length word < 256
  pub place : four_in table (12 * n) ≡ at
  pub some : 1 ≤ row_count table n
  pub many : row_count table n ≤ rows
  pub list : IfSome behind (λ place. four_in table (12 * n + 8) ≡ place)
  pub here : drop at dictionary ≡ word_bytes word ++ rest
