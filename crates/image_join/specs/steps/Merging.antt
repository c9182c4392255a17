-- The words of parts while they are merged.
use Rattle.std.specs.Prelude.{◌≡◌, ◌≢◌, ◌<◌, ◌≤◌, ℕ, List, [], ◌∷◌, ◌++◌, ◌==◌, Bool, true, false, Option, Some, None, nat_le, if◌then◌else◌, length, get_or, slice_get, All, AllPairs, Contains}
use Rattle.std.specs.Cmp.Lexicographic.{slice_cmp}
use Rattle.std.specs.Ordering.{nat_cmp, is_lt}
use Rattle.std.specs.declared.cmp.Ordering.TheVariants.{Less}
use Rattle.doc_types.specs.declared.documents.DocRow.{DocRow}
use Rattle.doc_types.specs.Chunks.{rows_with}
use Rattle.chunk_image.specs.ChunkImage.{dictionary_bytes, postings_bytes, table_bytes}
use Rattle.image_write.specs.Heads.{IsRead, head}
use Rattle.image_join.specs.declared.nexts.Next.{Next}
use Rattle.image_join.specs.declared.nexts.TheConstants.{NO_HEAD}
use Rattle.image_write.specs.declared.words.Tables.{Tables}
use Rattle.image_join.specs.steps.Parts.{PartValue, part_at}

-- a word stands before another one
abbrev pub less : List ℕ → List ℕ → Bool
less word other = is_lt (slice_cmp nat_cmp word other)

-- the word stands behind the last one that was gone over
abbrev pub is_ahead : Option (List ℕ) → List ℕ → Bool
is_ahead None word = true
is_ahead (Some last) word = less last word

-- the lesser of two words, where they are there
abbrev pub lesser : Option (List ℕ) → Option (List ℕ) → Option (List ℕ)
lesser None other = other
lesser (Some word) None = Some word
lesser (Some word) (Some other) = if less other word then Some other else Some word

-- where a part stands for none
abbrev pub blank_next : Next
blank_next = record { number = 0; head = 0 }

abbrev pub next_at : List Next → ℕ → Next
next_at nexts k = get_or nexts k blank_next

-- the first bytes of a word as a number, or what stands for these where there is no word
abbrev pub IsHeadOf : Option (List ℕ) → ℕ → Type 0
IsHeadOf None number = number ≡ NO_HEAD
IsHeadOf (Some word) number = (number ≡ head word) × IsRead word

-- a word, where this is the head of the next one
abbrev pub with_head : ℕ → Next → Option (List ℕ) → Option (List ℕ)
with_head number next word = if next.head == number then word else None

-- the least head of so many of these, and the place of one that has it, if any has a word
pub record IsLeastHead (nexts : List Next) (count place number : ℕ) : Type 0 where
  pub within : number ≤ NO_HEAD
  pub least : (k : ℕ) → k < count → number ≤ (next_at nexts k).head
  pub here : number ≢ NO_HEAD → (place < count) × ((next_at nexts place).head ≡ number)
  pub none : number ≡ NO_HEAD → (k : ℕ) → k < count → (next_at nexts k).head ≡ NO_HEAD

-- the part's words from this number on are those ahead, and the head of the first of them is at hand
pub record StandsAt (last : Option (List ℕ)) (part : PartValue) (next : Next) : Type 0 where
  pub split : (n : ℕ) (word : List ℕ) → slice_get part.words n ≡ Some word → is_ahead last word ≡ nat_le next.number n
  pub headed : IsHeadOf (slice_get part.words next.number) next.head

-- so each part stands
pub record StandAt (last : Option (List ℕ)) (parts : List PartValue) (nexts : List Next) : Type 0 where
  pub long : length nexts ≡ length parts
  pub each : (k : ℕ) → k < length parts → StandsAt last (part_at parts k) (next_at nexts k)

-- no word of the part is ahead
pub record IsDone (last : Option (List ℕ)) (part : PartValue) : Type 0 where
  pub none : (n : ℕ) (word : List ℕ) → slice_get part.words n ≡ Some word → is_ahead last word ≡ false

-- no word of the part that is ahead stands before this one
pub record IsBefore (last : Option (List ℕ)) (next : List ℕ) (part : PartValue) : Type 0 where
  pub least : (n : ℕ) (word : List ℕ) → slice_get part.words n ≡ Some word → is_ahead last word ≡ true → less word next ≡ false

-- the word is ahead, and the least of those that are
pub record IsLeast (last : Option (List ℕ)) (parts : List PartValue) (next : List ℕ) : Type 0 where
  pub ahead : is_ahead last next ≡ true
  pub each : All (IsBefore last next) parts

-- the words of the rows, up to the last one that was gone over
pub record AreWordsUpTo (rows : List DocRow) (last : Option (List ℕ)) (words : List (List ℕ)) : Type 0 where
  pub ascend : AllPairs (λ word later. slice_cmp nat_cmp word later ≡ Less) words
  pub behind : All (λ word. is_ahead last word ≡ false) words
  pub each : All (λ word. 0 < length (rows_with word rows)) words
  pub all : (word : List ℕ) → 0 < length (rows_with word rows) → is_ahead last word ≡ false → Contains words word

-- the word table, the dictionary and the postings of these words
pub record AreTables (rows : List DocRow) (words : List (List ℕ)) (tables : Tables) : Type 0 where
  pub count : tables.words ≡ length words
  pub table : tables.table.items ≡ table_bytes rows 0 0 words
  pub dictionary : tables.dictionary.items ≡ dictionary_bytes words
  pub postings : tables.postings.items ≡ postings_bytes rows words

-- the words with one more, where that has entries
abbrev pub added : {X : Type 0} → List X → List (List ℕ) → List ℕ → List (List ℕ)
added [] words word = words
added (x ∷ xs) words word = words ++ word ∷ []
