-- Words at the positions between boundaries.
use Rattle.std.specs.Prelude.{ℕ, zero, suc, ◌+◌, List, [], ◌∷◌, ◌≡◌, true, ◌<◌, ◌≤◌, ◌==◌, if◌then◌else◌}
use Rattle.doc_types.specs.declared.tokens.Gap.{Gap}
use Rattle.doc_types.specs.declared.tokens.Gap.TheVariants as kinds
use Rattle.doc_types.specs.declared.tokens.TokenWord.{TokenWord}
use Rattle.doc_types.specs.Chunks.{is_boundary}

-- the word at this position, with the boundary before it
abbrev pub token : (ℕ → List ℕ) → ℕ → Gap → TokenWord
token word position gap = record { word = word position; position = position; gap = gap }

-- the words at so many positions from this one on, but where a boundary takes one; the first stands behind this boundary
abbrev pub words_between : (ℕ → List ℕ) → ℕ → ℕ → Gap → List (ℕ × Gap) → List TokenWord
words_between word zero position before gaps = []
words_between word (suc n) position before [] = token word position before ∷ words_between word n (position + 1) kinds.None []
words_between word (suc n) position before (gap ∷ gaps) =
    if gap.0 == position then words_between word n (position + 1) gap.1 gaps else token word position before ∷ words_between word n (position + 1) kinds.None (gap ∷ gaps)

-- so many numbers from this one on
abbrev pub from_on : ℕ → ℕ → List ℕ
from_on zero n = []
from_on (suc more) n = n ∷ from_on more (n + 1)

-- boundaries at positions from this one on and below that one, each of a kind, and no two of them neighbours
abbrev pub AreLaid : ℕ → ℕ → List (ℕ × Gap) → Type 0
AreLaid low high [] = Unit {0}
AreLaid low high (gap ∷ gaps) = (low ≤ gap.0) × (gap.0 < high) × (is_boundary gap.1 ≡ true) × AreLaid (gap.0 + 2) high gaps
