-- Where pieces end.
use Rattle.std.specs.Prelude.{◌≡◌, ◌⊎◌, ℕ, ◌-◌, ◌<◌, ◌≤◌, List, [], ◌∷◌, Bool, true, false, length}
use Rattle.std.specs.Str.{IsCharBoundary}
use Rattle.query_pieces.specs.QueryBytes.{byte}
use Rattle.query_pieces.specs.Letters.{Alphabet}
use Rattle.query_pieces.specs.Pieces.{AreLetters}

-- A piece from one place up to another has bytes and lies in the text, and no character is cut where it ends, since an ASCII
-- byte stands on one side.
pub record EndsIn (text : List ℕ) (from to : ℕ) : Type 0 where
  pub after : from < to
  pub within : to ≤ length text
  pub seam : (byte text to < 128) ⊎ (byte text (to - 1) < 128)

-- Something was read from one place up to another, where no character is cut.
pub record Follows (text : List ℕ) (from to : ℕ) : Type 0 where
  pub after : from < to
  pub seam : IsCharBoundary text to

-- whether there are any
abbrev pub are_some : List ℕ → Bool
are_some [] = false
are_some (c ∷ cs) = true

-- letters that were read have bytes
abbrev pub Ahead : Bool → ℕ → ℕ → Type 0
Ahead true from at = from < at
Ahead false from at = from ≡ at

-- Letters were read from one place up to another.
pub record HasRead (alphabet : Alphabet) (text : List ℕ) (from : ℕ) (inside : Bool) (at : ℕ) : Type 0 where
  pub letters : List ℕ
  pub are : AreLetters alphabet text false from letters at
  pub flag : inside ≡ are_some letters
  pub ahead : Ahead inside from at
  pub seam : IsCharBoundary text at
