-- Tests joined by `and`, `or` and `not`.
use Rattle.std.proofs.Common.{◌≡◌, Bool, true, false, ◌⊎◌, inl, inr, refl}
use Rattle.std.specs.Prelude.{◌&&◌, ◌||◌, not}

pub and_first : (b c : Bool) → (b && c) ≡ true → b ≡ true
and_first true c e = refl
and_first false c e = cc

pub and_second : (b c : Bool) → (b && c) ≡ true → c ≡ true
and_second true c e = e
and_second false c e = cc

pub and_all : (a b c : Bool) → (a && b && c) ≡ true → (a ≡ true) × (b ≡ true) × (c ≡ true)
and_all a b c e = (and_first a b (and_first (a && b) c e), and_second a b (and_first (a && b) c e), and_second (a && b) c e)

pub both_true : (b c : Bool) → b ≡ true → c ≡ true → (b && c) ≡ true
both_true true c e f = f
both_true false c e f = cc

pub and_false : (b c : Bool) → b ≡ false → (b && c) ≡ false
and_false true c e = cc
and_false false c e = refl

pub or_cases : (b c : Bool) → (b || c) ≡ true → (b ≡ true) ⊎ (c ≡ true)
or_cases true c e = inl refl
or_cases false c e = inr e

pub or_left : (b c : Bool) → b ≡ true → (b || c) ≡ true
or_left true c e = refl
or_left false c e = cc

pub or_right : (b c : Bool) → c ≡ true → (b || c) ≡ true
or_right true c e = refl
or_right false c e = e

pub or_first : (b c : Bool) → (b || c) ≡ false → b ≡ false
or_first true c e = cc
or_first false c e = refl

pub or_second : (b c : Bool) → (b || c) ≡ false → c ≡ false
or_second true c e = cc
or_second false c e = e

pub or_other : (b c : Bool) → b ≡ false → (b || c) ≡ true → c ≡ true
or_other true c is e = cc
or_other false c is e = e

pub both_false : (b c : Bool) → b ≡ false → c ≡ false → (b || c) ≡ false
both_false true c e f = cc
both_false false c e f = f

-- where the one holds, so does the other
pub implied : (b c : Bool) → b ≡ true → (not b || c) ≡ true → c ≡ true
implied true c is e = e
implied false c is e = cc

pub implies : (b c : Bool) → (b ≡ true → c ≡ true) → (not b || c) ≡ true
implies true c f = f refl
implies false c f = refl

pub not_true : (b : Bool) → not b ≡ true → b ≡ false
not_true true e = cc
not_true false e = refl

pub clash : (b : Bool) → b ≡ true → b ≡ false → ⊥
clash true e f = cc
clash false e f = cc
