-- Plans: what the words of a row must be, and how far the next such row is.
use Rattle.std.specs.Prelude.{◌≡◌, ◌<◌, ◌≤◌, ℕ, List, Bool, true, false, nat_le}
use Rattle.std.specs.List.{list_all, list_any, count_by}
use Rattle.doc_types.specs.declared.cursor.TheConstants.{NO_ROW}
use Rattle.row_plans.specs.declared.plan.Plan.{Plan}
use Rattle.row_plans.specs.declared.plan.Plan.TheOpen.{Plan-F}
use Rattle.row_plans.specs.declared.plan.Plan.TheFolds.{fold-Plan}

-- so many of the words are there
abbrev pub holds_some : ℕ → List ℕ → (ℕ → Bool) → Bool
holds_some least words has = nat_le least (count_by has words)

abbrev pub plan_step : (ℕ → Bool) → Plan-F Bool → Bool
plan_step has (Plan-F.Word number) = has number
plan_step has (Plan-F.All parts) = list_all (λ part. part) parts
plan_step has (Plan-F.Any parts) = list_any (λ part. part) parts
plan_step has (Plan-F.Enough least words) = holds_some least words has

-- the words that are there are as the plan wants
unfoldable pub holds : (ℕ → Bool) → Plan → Bool
holds has = fold-Plan Bool (plan_step has)

-- No row from the one on up to the other is wanted; where they are one, it is.
pub record IsBound (wanted : ℕ → Bool) (from far : ℕ) : Type 0 where
  pub on : from ≤ far
  pub none : (row : ℕ) → from ≤ row → row < far → wanted row ≡ false
  pub stands : far ≡ from → from < NO_ROW → wanted from ≡ true

-- It is the first row that is wanted, from this one on; `NO_ROW` says that none below that number is.
pub record IsFirst (wanted : ℕ → Bool) (from next : ℕ) : Type 0 where
  pub on : from ≤ next
  pub none : (row : ℕ) → from ≤ row → row < next → wanted row ≡ false
  pub found : next < NO_ROW → wanted next ≡ true
