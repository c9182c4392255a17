-- As many columns of one kind, and one more.
use Rattle.std.proofs.Common.{◌≡◌, ℕ, ◌+◌, [], ◌∷◌, ◌++◌, add-one, refl}
use Rattle.ql_columns.specs.declared.columns.IndexColumn.{IndexColumn}
use Rattle.ql_columns.specs.Columns.{numbered}

pub numbered_more : (make : ℕ → IndexColumn) (count : ℕ) → numbered make (count + 1) ≡ numbered make count ++ make count ∷ []
numbered_more make count = rw add-one refl
