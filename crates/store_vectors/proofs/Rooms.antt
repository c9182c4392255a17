-- A root that isn't full has a number left.
use Rattle.std.proofs.Common.{◌≡◌, ◌↔◌, ◌<◌, ◌≤◌, ◌^◌, inl, inr, ℕ, Bool, false, IsTrue}
use Rattle.std.proofs.lemmas.Bool.{both_ways, cases_lt}

pub room_by : (full : Bool) (number : ℕ) → (IsTrue full ↔ (2 ^ 63 ≤ number)) → full ≡ false → number < 2 ^ 63
room_by full number iff isnt = elim (cases_lt number (2 ^ 63)) [ inl lt ↦ lt | inr ge ↦ absurd (both_ways full isnt (iff.1 ge)) ]
