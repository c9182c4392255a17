-- The cover of a row: each position of a field, from 1 to that of its last word, is a hit of exactly one word, or a boundary takes it.
-- The first and the last position are hits, no two boundaries are neighbours, and no hit lies beyond.
use Rattle.std.specs.Prelude.{◌≡◌, ℕ, ◌+◌, ◌<◌, ◌≤◌, List, [], ◌∷◌, ◌++◌, Bool, ◌==◌, if◌then◌else◌, length, get_or}
use Rattle.std.specs.List.{AllByRecursion, list_any}
use Rattle.doc_types.specs.declared.tokens.Gap.{Gap}
use Rattle.posting_codec.specs.HitLists.{key}
use Rattle.chunk_damage.specs.RowMarks.{FieldMarks, RowMarks, is_taken, empty_field}
use Rattle.chunk_damage.specs.WordLists.{Entry}

-- the hits of a row in the list of a word
abbrev pub hits_in : ℕ → List Entry → List (ℕ × ℕ)
hits_in row [] = []
hits_in row (entry ∷ entries) = if entry.0 == row then entry.1 else hits_in row entries

-- one of the hits has this key
abbrev pub has_key : List (ℕ × ℕ) → ℕ → Bool
has_key hits k = list_any (λ hit. key hit == k) hits

-- how many of the lists have a hit of this key in the row
abbrev pub owners : List (List Entry) → ℕ → ℕ → ℕ
owners [] row k = 0
owners (list ∷ lists) row k = (if has_key (hits_in row list) k then 1 else 0) + owners lists row k

-- boundaries at positions from this one on and below that one, no two of them neighbours
abbrev pub AreBetween : ℕ → ℕ → List (ℕ × Gap) → Type 0
AreBetween low high [] = Unit {0}
AreBetween low high (gap ∷ gaps) = (low ≤ gap.0) × (gap.0 < high) × AreBetween (gap.0 + 2) high gaps

-- the field of this number is covered: each of its positions has one owner, a word or a boundary, and boundaries lie between words
pub record IsFieldCovered (lists : List (List Entry)) (row field : ℕ) (m : FieldMarks) : Type 0 where
  pub between : AreBetween 2 m.last m.gaps
  pub each : (p : ℕ) → 1 ≤ p → p ≤ m.last → (if is_taken m.gaps p then 1 else 0) + owners lists row (key (field, p)) ≡ 1

-- the fields from this number on are
abbrev pub AreCovered : List (List Entry) → ℕ → ℕ → List FieldMarks → Type 0
AreCovered lists row field [] = Unit {0}
AreCovered lists row field (m ∷ ms) = IsFieldCovered lists row field m × AreCovered lists row (field + 1) ms

-- a hit lies at a position of one of the fields
pub record LiesIn (fields : List FieldMarks) (hit : ℕ × ℕ) : Type 0 where
  pub field : hit.0 < length fields
  pub from_one : 1 ≤ hit.1
  pub within : hit.1 ≤ (get_or fields hit.0 empty_field).last

-- the row of this number is covered, and its hits lie in its fields
pub record IsCovered (lists : List (List Entry)) (row : ℕ) (m : RowMarks) : Type 0 where
  pub fields : AreCovered lists row 0 m.fields
  pub inside : AllByRecursion (λ list. AllByRecursion (LiesIn m.fields) (hits_in row list)) lists

-- so are all rows, the first of which has this number
abbrev pub AllCovered : List (List Entry) → ℕ → List RowMarks → Type 0
AllCovered lists row [] = Unit {0}
AllCovered lists row (m ∷ marks) = IsCovered lists row m × AllCovered lists (row + 1) marks

-- the row of this number isn't covered, the first that isn't
pub record IsUncovered (lists : List (List Entry)) (marks : List RowMarks) (row : ℕ) : Type 0 where
  pub before : List RowMarks
  pub m : RowMarks
  pub behind : List RowMarks
  pub are : marks ≡ before ++ m ∷ behind
  pub number_is : row ≡ length before
  pub good : AllCovered lists 0 before
  pub bad : IsCovered lists row m → ⊥
