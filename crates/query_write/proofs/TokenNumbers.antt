-- Numbers as they are written are read back.
use Rattle.std.proofs.Common.{◌≡◌, ℕ, zero, suc, ◌-◌, ◌<◌, ◌≤◌, ◌^◌, true, false, List, ◌++◌, length, replicate, decimal, refl, sym, ap, ◌∙◌, subst, arith, length-append}
use Rattle.std.specs.Prelude.{Option, Some, None, ◌==◌, nat_le}
use Rattle.std.specs.Char.{is_ascii_digit}
use Rattle.std.specs.List.{list_all}
use Rattle.std.specs.Str.Parse.{digits_value}
use Rattle.std.proofs.lemmas.Bool.{le-leb, ne_eqb}
use Rattle.std.proofs.lemmas.Fmt.{decimal_is_IsNumeral, length-decimal-le}
use Rattle.std.proofs.lemmas.List.{length-replicate}
use Rattle.query_pieces.specs.declared.piece.Slice.{Slice}
use Rattle.query_pieces.specs.declared.piece.Number.{Number}
use Rattle.query_pieces.specs.declared.piece.Number.TheVariants as numbers
use Rattle.query_tree.specs.declared.key.How.{How}
use Rattle.query_tree.specs.declared.key.How.TheVariants as hows
use Rattle.query_marks.specs.declared.fault.QueryKind.TheVariants as kinds
use Rattle.query_marks.specs.LimitNames.{bytes_of, small_value, number_of}
use Rattle.query_marks.specs.Hows.{share_of, how_of, is_out}
use Rattle.query_marks.specs.Limits.{positions_of}
use Rattle.query_marks.specs.Marks.{nameless, wrong_positions}
use Rattle.query_write.specs.Written.{padded}
use Rattle.query_write.specs.steps.Signs.{IsHow, ArePositions}
use Rattle.query_write.specs.steps.TokenRun.{IsInRange, IsRightHow}
use Rattle.query_write.proofs.SpellLetters.{if_true, if_false}
use Rattle.query_write.proofs.SpellNumbers.{decimal_digits, padded_digits}

number_is : (bytes : List ℕ) (n : ℕ) → list_all is_ascii_digit bytes ≡ true → digits_value 10 bytes ≡ n → n ≤ 65535 → number_of bytes ≡ n
number_is bytes n digits value small =
    if_true (list_all is_ascii_digit bytes) (small_value bytes) 0 n digits
    (if_true (nat_le (digits_value 10 bytes) 65535) (digits_value 10 bytes) 0 n (le-leb (digits_value 10 bytes) 65535 (omega (arith, value, small))) value)

fits : (n : ℕ) → n ≤ 65535 → n < 2 ^ 64
fits n small = omega (arith, small)

pub number_decimal : (n : ℕ) → n ≤ 65535 → number_of (decimal n) ≡ n
number_decimal n small = number_is (decimal n) n (decimal_digits n (fits n small)).are (decimal_is_IsNumeral n (fits n small)).1 small

-- a number that is read back is not 0
pub not_zero : (k n : ℕ) → k ≡ n → 0 < n → (k == 0) ≡ false
not_zero k n is above = ne_eqb k 0 (λ e. absurd (omega (arith, e, is, above)))

-- ---- decimals
zeros_value : (count : ℕ) (digits : List ℕ) → digits_value 10 (replicate count 48 ++ digits) ≡ digits_value 10 digits
zeros_value zero digits = refl
zeros_value (suc count) digits = zeros_value count digits

power_small : (places : ℕ) → places ≤ 4 → 10 ^ places ≤ 10000
power_small zero few = omega arith
power_small (suc zero) few = omega arith
power_small (suc (suc zero)) few = omega arith
power_small (suc (suc (suc zero))) few = omega arith
power_small (suc (suc (suc (suc zero)))) few = omega arith
power_small (suc (suc (suc (suc (suc n))))) few = absurd (omega (arith, few))

padded_length : (places digits : ℕ) → 0 < places → digits < 10 ^ places → digits < 2 ^ 64 → length (padded places digits) ≡ places
padded_length places digits some below small =
    let short : length (decimal digits) ≤ places = length-decimal-le places digits some below small in
    omega (arith, length-append (replicate (places - length (decimal digits)) 48) (decimal digits), length-replicate {A = ℕ} (places - length (decimal digits)) 48, short)

share_back : (places digits : ℕ) → 0 < places → places ≤ 4 → digits < 10 ^ places → share_of (padded places digits) ≡ hows.Share digits places
share_back places digits some few below =
    let small : digits ≤ 65535 = omega (arith, below, power_small places few) in
    let size : length (padded places digits) ≡ places = padded_length places digits some below (fits digits small) in
    let value : digits_value 10 (padded places digits) ≡ digits = zeros_value (places - length (decimal digits)) (decimal digits) ∙ (decimal_is_IsNumeral digits (fits digits small)).1 in
    let number : number_of (padded places digits) ≡ digits = number_is (padded places digits) digits (padded_digits places digits (fits digits small)).are value small in
    if_true (nat_le (length (padded places digits)) 4) (hows.Share (number_of (padded places digits)) (length (padded places digits))) (hows.Share 0 0) (hows.Share digits places)
    (le-leb (length (padded places digits)) 4 (omega (arith, size, few)))
    (ap (λ (n : ℕ). hows.Share n (length (padded places digits))) number ∙ ap (λ (n : ℕ). hows.Share digits n) size)

-- ---- the number of a quoted piece, and of positions
pub how_back : (text : List ℕ) (number : Number) (how : How) → IsHow text number how → IsRightHow how → how_of text number ≡ how
how_back text numbers.Phrase how is right = sym is
how_back text (numbers.Within s) how (n, is, bytes) right =
    let range : IsInRange n = subst IsRightHow is right in
    ap (λ (k : ℕ). hows.Within k) (ap number_of bytes ∙ number_decimal n range.1) ∙ sym is
how_back text (numbers.AtLeast s) how (n, is, bytes) right =
    let range : IsInRange n = subst IsRightHow is right in
    ap (λ (k : ℕ). hows.AtLeast k) (ap number_of bytes ∙ number_decimal n range.1) ∙ sym is
how_back text (numbers.Share s) how (digits, places, is, bytes) right =
    let share : IsRightHow (hows.Share digits places) = subst IsRightHow is right in
    ap share_of bytes ∙ share_back places digits share.1 share.2 share.3 ∙ sym is

pub how_right : (how : How) → IsRightHow how → is_out how ≡ false
how_right hows.Phrase right = refl
how_right (hows.Within n) right = not_zero n n refl right.0
how_right (hows.AtLeast n) right = not_zero n n refl right.0
how_right (hows.Share digits places) right = not_zero digits digits refl right.0

pub positions_back : (text : List ℕ) (positions : Option Slice) (n : ℕ) → ArePositions text positions n → IsInRange n → positions_of text positions ≡ n
positions_back text None n are right = sym are
positions_back text (Some s) n are right = ap number_of are ∙ number_decimal n right.1

pub positions_right : (text : List ℕ) (positions : Option Slice) (n : ℕ) → ArePositions text positions n → IsInRange n → wrong_positions text positions ≡ None
positions_right text None n are right = refl
positions_right text (Some s) n are right =
    if_false (number_of (bytes_of text s) == 0) (nameless kinds.NumberOutOfRange) None None (not_zero (number_of (bytes_of text s)) n (ap number_of are ∙ number_decimal n right.1) right.0) refl
