-- How places are laid out: those of each row behind those of the row before, and in a row first the one for what stands at no position,
-- then those of each field.
use Rattle.std.specs.Prelude.{◌≡◌, ℕ, ◌+◌, ◌-◌, ◌*◌, ◌<◌, ◌≤◌, List, [], ◌∷◌, length, slice_index, ◌==◌, if◌then◌else◌}

-- where the places of each row and of each of its fields begin, and where the last ones end
pub record AreLaid (starts : List ℕ) (width rows places : ℕ) : Type 0 where
  pub wide : 1 ≤ width
  pub long : length starts ≡ rows * width + 1
  pub rise : (i j : ℕ) → i ≤ j → j < length starts → slice_index starts i ≤ slice_index starts j
  pub within : (j : ℕ) → j < length starts → slice_index starts j ≤ places
  pub outer : (row : ℕ) → row < rows → slice_index starts (row * width) < slice_index starts (row * width + 1)

-- how often the number is among them
abbrev pub times : ℕ → List ℕ → ℕ
times k [] = 0
times k (x ∷ xs) = (if x == k then 1 else 0) + times k xs

-- a position of a field of this row
pub record IsPosition (starts : List ℕ) (width row : ℕ) (at : ℕ × ℕ) : Type 0 where
  pub field : at.0 + 1 < width
  pub from_one : 1 ≤ at.1
  pub within : slice_index starts (row * width + at.0 + 1) + at.1 ≤ slice_index starts (row * width + at.0 + 2)

-- its place
abbrev pub position_place : List ℕ → ℕ → ℕ → ℕ × ℕ → ℕ
position_place starts width row at = slice_index starts (row * width + at.0 + 1) + at.1 - 1
