-- The numbers of quoted pieces, of NEAR and of limits, where nothing is wrong with them.
use Rattle.std.proofs.Common.{arith, ◌≡◌, ◌≤◌, ◌<◌, ◌^◌, ℕ, Bool, true, false, List, [], ◌∷◌, length, refl}
use Rattle.std.specs.Prelude.{Option, Some, None, if◌then◌else◌, ◌==◌, nat_le}
use Rattle.std.specs.Char.{is_ascii_digit}
use Rattle.std.specs.List.{list_all}
use Rattle.std.specs.Str.Parse.{digits_value, AllDigits}
use Rattle.std.proofs.lemmas.Bool.{and_parts, leb-true}
use Rattle.std.proofs.lemmas.Bool.Decides.{nat_tests}
use Rattle.std.proofs.lemmas.Int.Digits.{digits_value-lt}
use Rattle.std.proofs.lemmas.Str.{digit_value_digit}
use Rattle.query_pieces.specs.declared.piece.Slice.{Slice}
use Rattle.query_pieces.specs.declared.piece.Number.{Number}
use Rattle.query_pieces.specs.declared.piece.Number.TheVariants as numbers
use Rattle.query_tree.specs.declared.key.How.TheVariants as hows
use Rattle.query_marks.specs.declared.fault.QueryKind.TheVariants as kinds
use Rattle.query_marks.specs.LimitNames.{bytes_of, number_of}
use Rattle.query_marks.specs.Hows.{how_of, is_out}
use Rattle.query_marks.specs.Limits.{positions_of}
use Rattle.query_marks.specs.Marks.{nameless, wrong_positions}
use Rattle.query_write.specs.steps.TokenRun.{IsInRange, IsRightHow}

digits_all : (bytes : List ℕ) → list_all is_ascii_digit bytes ≡ true → AllDigits 10 bytes
digits_all [] e = tt
digits_all (b ∷ bytes) e =
    let both = and_parts (is_ascii_digit b) (list_all is_ascii_digit bytes) e in
    let ends = and_parts _ _ both.0 in
    let low : 48 ≤ b = leb-true 48 b ends.0 in
    let high : b ≤ 57 = leb-true b 57 ends.1 in
    (omega (arith, low, high, digit_value_digit b (low, high)), digits_all bytes both.1)

pub number_small : (bytes : List ℕ) → number_of bytes ≤ 65535
number_small bytes = by (list_all is_ascii_digit bytes) (nat_le (digits_value 10 bytes) 65535) refl
  where
    by : (b c : Bool) → nat_le (digits_value 10 bytes) 65535 ≡ c → (if b then (if c then digits_value 10 bytes else 0) else 0) ≤ 65535
    by true true e = leb-true (digits_value 10 bytes) 65535 e
    by true false e = omega arith
    by false c e = omega arith

above_zero : (n : ℕ) → (n == 0) ≡ false → 0 < n
above_zero n e = grind (arith, nat_tests)

pub number_in_range : (bytes : List ℕ) → (number_of bytes == 0) ≡ false → IsInRange (number_of bytes)
number_in_range bytes e = (above_zero (number_of bytes) e, number_small bytes)

-- a number above 0 is less than the power of ten by its digits
number_below : (bytes : List ℕ) → 0 < number_of bytes → number_of bytes < 10 ^ length bytes
number_below bytes above = by (list_all is_ascii_digit bytes) refl (nat_le (digits_value 10 bytes) 65535) above
  where
    by : (b : Bool) → list_all is_ascii_digit bytes ≡ b → (c : Bool) → 0 < (if b then (if c then digits_value 10 bytes else 0) else 0) → (if b then (if c then digits_value 10 bytes else 0) else 0) < 10 ^ length bytes
    by true e true above = digits_value-lt 10 bytes (digits_all bytes e)
    by true e false above = absurd (omega (arith, above))
    by false e c above = absurd (omega (arith, above))

some_digits : (bytes : List ℕ) → 0 < number_of bytes → 0 < length bytes
some_digits [] above = absurd (omega (arith, above))
some_digits (b ∷ bytes) above = omega arith

pub right_how : (text : List ℕ) (number : Number) → is_out (how_of text number) ≡ false → IsRightHow (how_of text number)
right_how text numbers.Phrase e = tt
right_how text (numbers.Within s) e = number_in_range (bytes_of text s) e
right_how text (numbers.AtLeast s) e = number_in_range (bytes_of text s) e
right_how text (numbers.Share s) e = by (nat_le (length (bytes_of text s)) 4) refl e
  where
    by : (b : Bool) → nat_le (length (bytes_of text s)) 4 ≡ b → is_out (if b then hows.Share (number_of (bytes_of text s)) (length (bytes_of text s)) else hows.Share 0 0) ≡ false
        → IsRightHow (if b then hows.Share (number_of (bytes_of text s)) (length (bytes_of text s)) else hows.Share 0 0)
    by true few e =
        let above = above_zero (number_of (bytes_of text s)) e in
        (above, some_digits (bytes_of text s) above, leb-true (length (bytes_of text s)) 4 few, number_below (bytes_of text s) above)
    by false few e = cc

pub right_positions : (text : List ℕ) (s : Option Slice) → wrong_positions text s ≡ None → IsInRange (positions_of text s)
right_positions text None e = (omega arith, omega arith)
right_positions text (Some s) e = by (number_of (bytes_of text s) == 0) refl e
  where
    by : (b : Bool) → (number_of (bytes_of text s) == 0) ≡ b → (if b then nameless kinds.NumberOutOfRange else None) ≡ None → IsInRange (number_of (bytes_of text s))
    by true f e = cc
    by false f e = number_in_range (bytes_of text s) f
