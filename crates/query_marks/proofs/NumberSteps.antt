-- The numbers that digits write.
use Rattle.std.proofs.Common.{◌≡◌, ℕ, ◌+◌, ◌-◌, ◌*◌, ◌<◌, true, false, Bool, List, refl, length, get_or, take, ap, ◌∙◌, arith}
use Rattle.std.specs.Prelude.{nat_le, if◌then◌else◌}
use Rattle.std.specs.Char.{is_ascii_digit, digit_value}
use Rattle.std.specs.Int.{IsInRange}
use Rattle.std.specs.List.{list_all}
use Rattle.std.specs.Str.Parse.{digits_value}
use Rattle.std.proofs.lemmas.Bool.{and_parts, leb-true}
use Rattle.std.proofs.lemmas.Int.Digits.{digits_value_more}
use Rattle.query_marks.specs.LimitNames.{small_value}
use Rattle.std.proofs.lemmas.List.Elements.{All-get_or}
use Rattle.std.proofs.lemmas.List.Sums.{AllPass-from_list_all}
use Rattle.std.proofs.lemmas.Str.{digit_value_digit}

-- each of some digits is one
pub digit_at : (bytes : List ℕ) (k : ℕ) → list_all is_ascii_digit bytes ≡ true → k < length bytes → IsInRange 48 57 (get_or bytes k 0)
digit_at bytes k digits below =
    let each : is_ascii_digit (get_or bytes k 0) ≡ true = All-get_or (λ b. is_ascii_digit b ≡ true) bytes k 0 below (AllPass-from_list_all is_ascii_digit bytes digits) in
    let both = and_parts _ _ each in
    (leb-true 48 (get_or bytes k 0) both.0, leb-true (get_or bytes k 0) 57 both.1)

-- one digit more
pub value_more : (bytes : List ℕ) (k : ℕ) → list_all is_ascii_digit bytes ≡ true → k < length bytes → digits_value 10 (take (k + 1) bytes) ≡ digits_value 10 (take k bytes) * 10 + (get_or bytes k 0 - 48)
value_more bytes k digits below =
    let e : digit_value (get_or bytes k 0) ≡ get_or bytes k 0 - 48 = omega (arith, digit_value_digit (get_or bytes k 0) (digit_at bytes k digits below)) in
    digits_value_more 10 bytes k below ∙ ap (λ d. digits_value 10 (take k bytes) * 10 + d) e

-- a number above the greatest one
pub number_large : (digits : List ℕ) → 65535 < digits_value 10 digits → 0 ≡ small_value digits
number_large digits large = by (nat_le (digits_value 10 digits) 65535) refl
  where
    by : (b : Bool) → nat_le (digits_value 10 digits) 65535 ≡ b → 0 ≡ (if b then digits_value 10 digits else 0)
    by true e = absurd (omega (arith, leb-true (digits_value 10 digits) 65535 e, large))
    by false e = refl
