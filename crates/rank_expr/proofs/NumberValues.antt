-- The numbers that digits write.
use Rattle.std.proofs.Common.{◌≡◌, ℕ, ◌+◌, ◌-◌, ◌*◌, ◌<◌, ◌≤◌, true, List, ◌++◌, length, get_or, take, drop, map, sym, ap, ◌∙◌, arith, take-append-drop}
use Rattle.std.specs.Char.{is_ascii_digit, digit_value}
use Rattle.std.specs.Int.{IsInRange}
use Rattle.std.specs.Int.Digits.{number_from_digits_after, number_from_digits}
use Rattle.std.specs.List.{list_all}
use Rattle.std.specs.Str.Parse.{digits_value}
use Rattle.std.proofs.lemmas.Bool.{and_parts, leb-true}
use Rattle.std.proofs.lemmas.Int.Digits.{digits_value_is, digits_value_more, number_after_append, number_after_ge}
use Rattle.std.proofs.lemmas.List.{map-append}
use Rattle.std.proofs.lemmas.List.Elements.{All-get_or}
use Rattle.std.proofs.lemmas.List.Sums.{AllPass-from_list_all}
use Rattle.std.proofs.lemmas.Str.{digit_value_digit}

-- each of some digits is one
pub digit_at : (bytes : List ℕ) (k : ℕ) → list_all is_ascii_digit bytes ≡ true → k < length bytes → IsInRange 48 57 (get_or bytes k 0)
digit_at bytes k digits below =
    let each : is_ascii_digit (get_or bytes k 0) ≡ true = All-get_or (λ b. is_ascii_digit b ≡ true) bytes k 0 below (AllPass-from_list_all is_ascii_digit bytes digits) in
    let both = and_parts _ _ each in
    (leb-true 48 (get_or bytes k 0) both.0, leb-true (get_or bytes k 0) 57 both.1)

-- one digit more
pub value_more : (bytes : List ℕ) (k : ℕ) → list_all is_ascii_digit bytes ≡ true → k < length bytes → digits_value 10 (take (k + 1) bytes) ≡ digits_value 10 (take k bytes) * 10 + (get_or bytes k 0 - 48)
value_more bytes k digits below =
    let e : digit_value (get_or bytes k 0) ≡ get_or bytes k 0 - 48 = omega (arith, digit_value_digit (get_or bytes k 0) (digit_at bytes k digits below)) in
    digits_value_more 10 bytes k below ∙ ap (λ d. digits_value 10 (take k bytes) * 10 + d) e

-- more digits write no smaller number
pub value_grows : (bytes : List ℕ) (k : ℕ) → digits_value 10 (take k bytes) ≤ digits_value 10 bytes
value_grows bytes k =
    let whole : digits_value 10 bytes ≡ number_from_digits_after 10 (number_from_digits 10 (map digit_value (take k bytes))) (map digit_value (drop k bytes)) =
    ap (digits_value 10) (sym (take-append-drop k bytes))
    ∙ digits_value_is 10 (take k bytes ++ drop k bytes)
    ∙ ap (number_from_digits 10) (map-append digit_value (take k bytes) (drop k bytes))
    ∙ number_after_append 10 0 (map digit_value (take k bytes)) (map digit_value (drop k bytes)) in
    omega (arith, whole, digits_value_is 10 (take k bytes), number_after_ge 10 (number_from_digits 10 (map digit_value (take k bytes))) (map digit_value (drop k bytes)) (omega arith))
