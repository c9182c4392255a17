-- Numbers of 128 bits, and those that have a value.
use Rattle.std.proofs.Common.{arith, ◌≡◌, ◌<◌, ◌^◌, ℕ, Bool, true, false, Option, Some, None, refl, sym, ap, ◌∙◌}
use Rattle.std.specs.Prelude.{if◌then◌else◌, nat_lt, ℤ, pos, negsuc, neg_ℤ, FitsSigned, IfSome, ◌≤ℤ◌, ◌<ℤ◌}
use Rattle.std.specs.Int.{w64, w128}
use Rattle.std.specs.Option.{SomeIff}
use Rattle.std.proofs.lemmas.Bool.{lt-ltb, ltb-true, ltb-false}
use Rattle.std.proofs.lemmas.Int.{ints}
use Rattle.rank_expr.specs.ExpressionWeight.{absolute, within}

checked : (z : ℤ) (n : ℕ) (b : Bool) → nat_lt n (2 ^ 127) ≡ b → (FitsSigned w128 z → n < 2 ^ 127) → (n < 2 ^ 127 → FitsSigned w128 z) → (result : Option ℤ) → SomeIff result (FitsSigned w128 z) z → result ≡ (if b then Some z else None)
checked z n true e there back (Some x) h = ap Some h.1
checked z n true e there back None h = absurd (h (back (ltb-true n (2 ^ 127) e)))
checked z n false e there back (Some x) h = absurd (omega (arith, there h.0, ltb-false n (2 ^ 127) e))
checked z n false e there back None h = refl

pub checked_within : (result : Option ℤ) (z : ℤ) → SomeIff result (FitsSigned w128 z) z → result ≡ within z
checked_within result (pos n) h = checked (pos n) n (nat_lt n (2 ^ 127)) refl (λ f. f.sfits) (λ f. record { sfits = f }) result h
checked_within result (negsuc n) h = checked (negsuc n) n (nat_lt n (2 ^ 127)) refl (λ f. f.sfits) (λ f. record { sfits = f }) result h

-- a value below 0, and one that isn't
pub absolute_below : (x : ℤ) (result : Option ℤ) → x <ℤ pos 0 → SomeIff result (FitsSigned w128 (neg_ℤ x)) (neg_ℤ x) → result ≡ absolute (Some x)
absolute_below (pos n) result less h = absurd (omega (arith, ints, less))
absolute_below (negsuc n) result less h = checked_within result (neg_ℤ (negsuc n)) h

pub absolute_else : (x : ℤ) → pos 0 ≤ℤ x → Some x ≡ absolute (Some x)
absolute_else (pos n) least = refl
absolute_else (negsuc n) least = absurd (omega (arith, ints, least))

-- a number of 64 bits has a value
pub short_within : (result : Option ℤ) (z : ℤ) → SomeIff result (FitsSigned w64 z) z → IfSome result (λ value. within z ≡ Some value)
short_within None z h = tt
short_within (Some x) (pos n) h =
    let fits : n < 2 ^ 63 = h.0.sfits in
    ap (λ b. if b then Some (pos n) else None) (lt-ltb n (2 ^ 127) (omega (arith, fits))) ∙ ap Some (sym h.1)
short_within (Some x) (negsuc n) h =
    let fits : n < 2 ^ 63 = h.0.sfits in
    ap (λ b. if b then Some (negsuc n) else None) (lt-ltb n (2 ^ 127) (omega (arith, fits))) ∙ ap Some (sym h.1)
