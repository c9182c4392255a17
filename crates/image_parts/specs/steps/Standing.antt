-- What stands at a place of some bytes.
use Rattle.std.specs.Prelude.{◌≡◌, ℕ, List, length, take, drop}

-- the bytes from this place on begin with the piece
pub record StandsAt (bytes : List ℕ) (at : ℕ) (piece : List ℕ) : Type 0 where
  pub is : take (length piece) (drop at bytes) ≡ piece
