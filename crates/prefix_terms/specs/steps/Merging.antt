-- The words of all parts, merged.
use Rattle.std.specs.Prelude.{◌≡◌, ◌≢◌, ◌<◌, ℕ, ◌+◌, List, [], Bool, true, false, Option, Some, None, nat_le, if◌then◌else◌, length, get_or, slice_get, slice_index, All, Contains}
use Rattle.std.specs.List.{list_any}
use Rattle.doc_types.specs.Chunks.{has_word}
use Rattle.prefix_terms.specs.steps.Parts.{Ascend, PartValue, less, living_of}

-- a part that stands for none
abbrev pub blank_part : PartValue
blank_part = record { rows = []; words = []; dead = [] }

-- the part of this number, the number at which it stands, and its word of that number
abbrev pub part_at : List PartValue → ℕ → PartValue
part_at parts k = get_or parts k blank_part

abbrev pub number_at : List ℕ → ℕ → ℕ
number_at numbers k = slice_index numbers k

abbrev pub front_at : List PartValue → List ℕ → ℕ → Option (List ℕ)
front_at parts numbers k = slice_get (part_at parts k).words (number_at numbers k)

-- the lesser of two words, where they are there
abbrev pub lesser : Option (List ℕ) → Option (List ℕ) → Option (List ℕ)
lesser None other = other
lesser (Some word) None = Some word
lesser (Some word) (Some other) = if less other word then Some other else Some word

-- the least of the words at which so many parts stand, if one is left
abbrev pub IsLeastWord : List PartValue → List ℕ → ℕ → Option (List ℕ) → Type 0
IsLeastWord parts numbers count None = (k : ℕ) → k < count → front_at parts numbers k ≡ None
IsLeastWord parts numbers count (Some word) =
    ((k : ℕ) × (k < count) × (front_at parts numbers k ≡ Some word)) × ((k : ℕ) (front : List ℕ) → k < count → front_at parts numbers k ≡ Some front → less front word ≡ false)

-- one part went over the word if it stood at it
pub record IsPassed (word : List ℕ) (front : Option (List ℕ)) (old new : ℕ) : Type 0 where
  pub over : front ≡ Some word → new ≡ old + 1
  pub stays : front ≢ Some word → new ≡ old

-- so many parts did
abbrev pub ArePassed : List ℕ → List PartValue → List ℕ → List ℕ → ℕ → Type 0
ArePassed word parts old new count = (k : ℕ) → k < count → IsPassed word (front_at parts old k) (number_at old k) (number_at new k)

-- a row of the part that lives has the word
abbrev pub lives_in : List ℕ → PartValue → Bool
lives_in word part = list_any (has_word word) (living_of part)

-- the word stands behind the last one that was gone over
abbrev pub is_ahead : Option (List ℕ) → List ℕ → Bool
is_ahead None word = true
is_ahead (Some last) word = less last word

-- the words of a part from the number on at which it stands are those ahead
pub record StandAt (last : Option (List ℕ)) (parts : List PartValue) (numbers : List ℕ) : Type 0 where
  pub long : length numbers ≡ length parts
  pub split : (k n : ℕ) (word : List ℕ) → k < length parts → slice_get (part_at parts k).words n ≡ Some word → is_ahead last word ≡ nat_le (number_at numbers k) n

-- a word of some part
pub record IsWordOf (parts : List PartValue) (word : List ℕ) : Type 0 where
  pub part : ℕ
  pub number : ℕ
  pub within : part < length parts
  pub here : slice_get (part_at parts part).words number ≡ Some word

-- the words of the parts that living rows have, up to the last one that was gone over
pub record AreWordsUpTo (parts : List PartValue) (last : Option (List ℕ)) (words : List (List ℕ)) : Type 0 where
  pub ascend : Ascend words
  pub behind : All (λ word. is_ahead last word ≡ false) words
  pub there : All (IsWordOf parts) words
  pub live : All (λ word. list_any (lives_in word) parts ≡ true) words
  pub all : (word : List ℕ) → IsWordOf parts word → list_any (lives_in word) parts ≡ true → is_ahead last word ≡ false → Contains words word

-- the words of the parts that living rows have
pub record AreMerged (parts : List PartValue) (words : List (List ℕ)) : Type 0 where
  pub ascend : Ascend words
  pub there : All (IsWordOf parts) words
  pub live : All (λ word. list_any (lives_in word) parts ≡ true) words
  pub all : (word : List ℕ) → IsWordOf parts word → list_any (lives_in word) parts ≡ true → Contains words word
