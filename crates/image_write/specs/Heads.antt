-- The first bytes of a word as a number.
use Rattle.std.specs.Prelude.{ℕ, zero, suc, ◌+◌, ◌-◌, ◌*◌, ◌%◌, ◌<◌, List, [], ◌∷◌, Bool, ◌==◌, ◌&&◌, ◌||◌, if◌then◌else◌, drop, length, nat_lt, not}

-- a number and behind it so many of the word's bytes, with 0 for each that the word doesn't have
abbrev pub followed : ℕ → ℕ → List ℕ → ℕ
followed zero number word = number
followed (suc n) number [] = followed n (number * 256) []
followed (suc n) number (byte ∷ word) = followed n (number * 256 + byte) word

-- bytes as numbers up to 123, in their order: each byte from 48 to 169 has one of its own, and digits and letters are among these
abbrev pub rank : ℕ → ℕ
rank byte = (byte - 47) - (byte - 47 - 123)

abbrev pub is_own : ℕ → Bool
is_own number = nat_lt 0 number && nat_lt number 123

-- the eighth byte of a word, and whether more follow: an even number where that tells all
abbrev pub eighth : Bool → ℕ → ℕ
eighth more byte = if not more && is_own (rank byte) then 8 + 2 * rank byte else 9 + 2 * rank byte

-- what a word has behind its first seven bytes: nothing where it has no more than so many
abbrev pub ending : ℕ → List ℕ → ℕ
ending count [] = count
ending count (byte ∷ rest) = eighth (nat_lt 0 (length rest)) byte

-- the first seven bytes of a word, the first one highest, and its ending
unfoldable pub head : List ℕ → ℕ
head word = followed 7 0 word * 256 + ending (length word) (drop 7 word)

-- the head tells the word: it has no more than seven bytes, or an eighth one that is told and ends it
abbrev pub tells : ℕ → Bool
tells number = nat_lt (number % 256) 8 || (number % 2 == 0)

-- the first bytes of the word, so many at most, are bytes
abbrev pub HasBytes : ℕ → List ℕ → Type 0
HasBytes zero word = Unit {0}
HasBytes (suc n) [] = Unit {0}
HasBytes (suc n) (byte ∷ word) = (byte < 256) × HasBytes n word

pub record IsRead (word : List ℕ) : Type 0 where
  pub bytes : HasBytes 7 word
