-- Masks of fields.
use Rattle.std.proofs.Common.{ℕ, zero, suc, ◌^◌, ◌<◌, ◌≤◌, Bool, true, false, List, [], ◌∷◌, length, arith}
use Rattle.std.specs.Prelude.{if◌then◌else◌}
use Rattle.std.proofs.Math.Nat.{pow-succ'}
use Rattle.std.proofs.lemmas.Nat.{pow_pos}
use Rattle.query_marks.specs.Limits.{mask}

bit_small : (b : Bool) → (if b then 1 else 0) ≤ 1
bit_small true = omega arith
bit_small false = omega arith

-- a mask of so many fields
pub mask_below : (keeps : List ℕ → Bool) (fields : List (List ℕ)) (n : ℕ) → length fields ≤ n → mask keeps fields < 2 ^ n
mask_below keeps [] n within = pow_pos n
mask_below keeps (field ∷ fields) zero within = absurd (omega (arith, within))
mask_below keeps (field ∷ fields) (suc n) within =
    let rest : mask keeps fields < 2 ^ n = mask_below keeps fields n (omega (arith, within)) in
    omega (arith, rest, pow-succ' 2 n, bit_small (keeps field))
