-- Rows that aren't dead.
use Rattle.std.specs.Prelude.{◌<◌, ◌≤◌, ℕ, List, Bool, ◌&&◌, ◌==◌, not, length, All, take}
use Rattle.std.specs.List.{list_any}
use Rattle.row_plans.specs.declared.plan.Plan.{Plan}
use Rattle.row_plans.specs.Plans.{holds}

-- The first so many of the dead rows lie before this one.
pub record HasGone (dead : List ℕ) (gone row : ℕ) : Type 0 where
  pub within : gone ≤ length dead
  pub before : All (λ d. d < row) (take gone dead)

-- the words of the row are as the plan wants, and it isn't dead
abbrev pub is_living : (ℕ → Bool) → Plan → List ℕ → ℕ → Bool
is_living has plan dead row = holds has plan && not (list_any (λ d. d == row) dead)
