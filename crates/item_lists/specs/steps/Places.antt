-- Items at a place of some bytes, before the rest of them: what a reader that goes over the bytes knows.
use Rattle.std.specs.Prelude.{◌≡◌, ℕ, List, ◌++◌, length, drop}
use Rattle.item_lists.specs.Items.{AllFit, spelled}

-- an item is spelled at this place
pub record IsItemAt {S A : Type 0} (write : S → A → List ℕ) (Fits : S → A → Type 0) (bytes : List ℕ) (at : ℕ) (s : S) (x : A) (rest : List ℕ) : Type 0 where
  pub fits : Fits s x
  pub here : drop at bytes ≡ write s x ++ rest

-- so many items are
pub record AreItemsAt {S A : Type 0} (write : S → A → List ℕ) (next : S → A → S) (Fits : S → A → Type 0) (bytes : List ℕ) (at : ℕ) (s : S) (count : ℕ) (xs : List A) (rest : List ℕ) : Type 0 where
  pub counted : length xs ≡ count
  pub fit : AllFit next Fits s xs
  pub here : drop at bytes ≡ spelled write next s xs ++ rest
