-- Rises and causes over calls in a row.
use Rattle.std.specs.Prelude.{ℕ, ◌<◌, ◌≤◌, Result, Ok, Err, IsOk}
use Rattle.std.proofs.Common.{refl, inl, inr, ⊎_elim, arith}
use Rattle.std.proofs.lemmas.Bool.{cases_lt}
use Rattle.srch_base.specs.Counts.{last_count, Rose, HasCause}

-- A rise is still one after further calls.
pub Rose-later : (before between now : ℕ) → before ≤ between → between ≤ now → Rose before between → Rose before now
Rose-later before between now first second (inl rose) = inl (omega arith)
Rose-later before between now first second (inr ended) = ⊎_elim (λ above. inl (omega (arith, ended))) (λ within. inr (omega (arith, ended))) (cases_lt last_count now)

-- A rise after earlier calls is one over all of them.
pub Rose-earlier : (before between now : ℕ) → before ≤ between → Rose between now → Rose before now
Rose-earlier before between now first (inl rose) = inl (omega arith)
Rose-earlier before between now first (inr ended) = inr ended

-- A call that had a cause has it over the calls that follow.
pub HasCause-later : {T E : Type 0} (before between now : ℕ) (result : Result T E) → HasCause before between result → between ≤ now → HasCause before now result
HasCause-later before between now result cause later =
    record { later = omega (arith, cause.later); failed = λ failed. Rose-later before between now cause.later later (cause.failed failed) }

-- A call that had a cause has it over the calls before it.
pub HasCause-earlier : {T E : Type 0} (before between now : ℕ) (result : Result T E) → before ≤ between → HasCause between now result → HasCause before now result
HasCause-earlier before between now result earlier cause =
    record { later = omega (arith, cause.later); failed = λ failed. Rose-earlier before between now earlier (cause.failed failed) }

-- A count that stood still is no cause: where it is below its end, the call didn't fail.
pub HasCause-none : {T E : Type 0} (count : ℕ) (result : Result T E) → count < last_count → HasCause count count result → IsOk result
HasCause-none count (Ok x) below cause = refl
HasCause-none count (Err e) below cause = absurd (⊎_elim (λ rose. omega arith) (λ ended. omega (arith, ended)) (cause.failed refl))
