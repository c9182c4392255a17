-- Counts of faults: they never fall, and a failed call has raised one.
use Rattle.std.specs.Prelude.{◌≡◌, ◌⊎◌, ℕ, ◌-◌, ◌<◌, ◌≤◌, ◌^◌, Result, IsErr}

-- where a count ends and stands still
abbrev pub last_count : ℕ
last_count = 2 ^ 64 - 1

-- The count rose, or it stands at its end.
abbrev pub Rose : ℕ → ℕ → Type 0
Rose before now = (before < now) ⊎ (now ≡ last_count)

-- The count didn't fall over a call, and it rose where the call failed.
pub record HasCause {T E : Type 0} (before now : ℕ) (result : Result T E) : Type 0 where
  pub later : before ≤ now
  pub failed : IsErr result → Rose before now
