-- What appending the entry of a row does.
use Rattle.std.specs.Prelude.{◌≡◌, ℕ, List, ◌∷◌, ◌++◌}
use Rattle.posting_codec.specs.PostingLists.{posting}
use Rattle.image_write.specs.steps.Gathering.{Place, grouped}

-- the first of these places are an entry of this row, which stands behind the bytes from before, and the rest are those behind it
pub record IsPosted (least row : ℕ) (places rest : List Place) (before after : List ℕ) : Type 0 where
  pub hits : List (ℕ × ℕ)
  pub is : grouped places ≡ (row, hits) ∷ grouped rest
  pub put : after ≡ before ++ posting least row hits
