-- Which word stands at a position of a row, and the words that stand between its boundaries.
use Rattle.std.specs.Prelude.{◌≡◌, ℕ, ◌+◌, ◌*◌, ◌≤◌, List, [], ◌∷◌, ◌++◌, map, true, if◌then◌else◌}
use Rattle.doc_types.specs.declared.tokens.Gap.TheVariants as kinds
use Rattle.doc_types.specs.declared.tokens.TokenWord.{TokenWord}
use Rattle.doc_types.specs.declared.tokens.TheConstants.{MAX_POSITION}
use Rattle.posting_codec.specs.HitLists.{key}
use Rattle.chunk_damage.specs.WordLists.{Entry}
use Rattle.chunk_damage.specs.RowMarks.{FieldMarks, is_taken}
use Rattle.chunk_damage.specs.Cover.{has_key, hits_in, owners}
use Rattle.image_rows.specs.steps.Between.{AreLaid, from_on, words_between}

-- the word whose list has a hit of this key in the row: the first one
abbrev pub word_at : List (List ℕ) → List (List Entry) → ℕ → ℕ → List ℕ
word_at [] lists row k = []
word_at (word ∷ words) [] row k = []
word_at (word ∷ words) (list ∷ lists) row k = if has_key (hits_in row list) k then word else word_at words lists row k

-- the words of fields with these marks, the first of which has this number
abbrev pub row_words : (ℕ → List ℕ) → ℕ → List FieldMarks → List (List TokenWord)
row_words word n [] = []
row_words word n (m ∷ ms) = words_between (λ p. word (n * 65536 + p)) m.last 1 kinds.None m.gaps ∷ row_words word (n + 1) ms

-- all positions of these fields
abbrev pub all_places : ℕ → List FieldMarks → List (ℕ × ℕ)
all_places n [] = []
all_places n (m ∷ ms) = map (λ p. (n, p)) (from_on m.last 1) ++ all_places (n + 1) ms

-- the boundaries of a field lie between words of it
pub record AreWellPlaced (m : FieldMarks) : Type 0 where
  pub short : m.last ≤ MAX_POSITION
  pub between : AreLaid 2 m.last m.gaps

-- each position of the field of this number, from 1 to the last, is a boundary's or has one word
pub record IsOwned (lists : List (List Entry)) (row n : ℕ) (m : FieldMarks) : Type 0 where
  pub placed : AreWellPlaced m
  pub each : (p : ℕ) → 1 ≤ p → p ≤ m.last → (if is_taken m.gaps p then 1 else 0) + owners lists row (n * 65536 + p) ≡ 1

-- so it is with the fields from this number on
abbrev pub AreOwned : List (List Entry) → ℕ → ℕ → List FieldMarks → Type 0
AreOwned lists row n [] = Unit {0}
AreOwned lists row n (m ∷ ms) = IsOwned lists row n m × AreOwned lists row (n + 1) ms

-- each of the second hits is one of the first
abbrev pub AllIn : List (ℕ × ℕ) → List (ℕ × ℕ) → Type 0
AllIn all [] = Unit {0}
AllIn all (h ∷ hs) = (has_key all (key h) ≡ true) × AllIn all hs
