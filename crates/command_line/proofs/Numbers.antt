-- Numbers written in digits.
use Rattle.std.proofs.Common.{◌≡◌, ◌∙◌, ◌≤◌, ◌<◌, ◌&&◌, ◌==◌, ◌^◌, ℕ, Bool, cond, true, false, not, refl, sym, ap, subst, true≢false, arith, List, [], ◌∷◌, length, Some, None, nat_le, le-leb}
use Rattle.std.specs.Char.{is_ascii_digit}
use Rattle.std.specs.List.{list_all}
use Rattle.std.specs.Str.Parse.{AllDigits, IsNumeral, digits_value, without_leading_plus, ParsesUnsigned}
use Rattle.std.proofs.lemmas.Bool.{and_parts, leb-true, eqb-true}
use Rattle.std.proofs.lemmas.Str.{digit_value_digit}
use Rattle.std.specs.Prelude.{Option, Result, Ok, Err}
use Rattle.clap.specs.Matches.{ReadsOne}
use Rattle.clap.specs.Values.{IsUnsignedIn}
use Rattle.command_line.specs.Modes.{is_number, number_in}

digits_all : (bytes : List ℕ) → list_all is_ascii_digit bytes ≡ true → AllDigits 10 bytes
digits_all [] e = tt
digits_all (b ∷ bytes) e =
    let both = and_parts (is_ascii_digit b) (list_all is_ascii_digit bytes) e in
    let ends = and_parts _ _ both.0 in
    let low : 48 ≤ b = leb-true 48 b ends.0 in
    let high : b ≤ 57 = leb-true b 57 ends.1 in
    (omega (arith, low, high, digit_value_digit b (low, high)), digits_all bytes both.1)

no_plus : (x : ℕ) → 48 ≤ x → (x == 43) ≡ false
no_plus x low = by (x == 43) refl
  where
    by : (b : Bool) → (x == 43) ≡ b → b ≡ false
    by false e = refl
    by true e = absurd (omega (arith, low, eqb-true x 43 e))

-- digits alone are a numeral, with no plus before them
pub is_numeral : (text : List ℕ) → is_number text ≡ true → IsNumeral 10 text × (without_leading_plus text ≡ text)
is_numeral [] e = absurd (true≢false (sym e))
is_numeral (x ∷ xs) e =
    let digits = (and_parts (not (length (x ∷ xs) == 0)) (list_all is_ascii_digit (x ∷ xs)) e).1 in
    let first = (and_parts (is_ascii_digit x) (list_all is_ascii_digit xs) digits).0 in
    let low : 48 ≤ x = leb-true 48 x (and_parts _ _ first).0 in
    ((omega arith, digits_all (x ∷ xs) digits), rw (no_plus x low) refl)

-- a number beyond those of 32 bits isn't in a range of them
pub number_refused : (text : List ℕ) (low high : ℕ) → true ≡ is_number text → high < 2 ^ 32
    → ¬ (IsNumeral 10 (without_leading_plus text) × (digits_value 10 (without_leading_plus text) < 2 ^ 32)) → None ≡ number_in low high text
number_refused text low high is below refused = by (nat_le (digits_value 10 text) high) refl
  where
    number : is_number text ≡ true
    number = sym is

    none : (b : Bool) → cond (b && false) (Some (digits_value 10 text)) None ≡ None
    none true = refl
    none false = refl

    by : (b : Bool) → nat_le (digits_value 10 text) high ≡ b → None ≡ number_in low high text
    by true e =
        let plain = is_numeral text number in
        let small : digits_value 10 text < 2 ^ 32 = omega (arith, leb-true (digits_value 10 text) high e, below) in
        absurd (refused (subst (λ (t : List ℕ). IsNumeral 10 t × (digits_value 10 t < 2 ^ 32)) (sym plain.1) (plain.0, small)))
    by false e = sym (rw (number, e) (none (nat_le low (digits_value 10 text))))

-- ---- as `clap` takes them

-- a number that is taken is in its range
pub taken_number : (text : List ℕ) (low high : ℕ) → is_number text ≡ true → IsUnsignedIn low high text
    → (number_in low high text ≡ Some (digits_value 10 text)) × (digits_value 10 text ≤ high)
taken_number text low high number is =
    let plain = is_numeral text number in
    let above : low ≤ digits_value 10 text = subst (λ (t : List ℕ). low ≤ digits_value 10 t) plain.1 is.2 in
    let below : digits_value 10 text ≤ high = subst (λ (t : List ℕ). digits_value 10 t ≤ high) plain.1 is.3 in
    (rw (number, le-leb low (digits_value 10 text) above, le-leb (digits_value 10 text) high below) refl, below)

-- a number in its range is taken
pub number_taken : (text : List ℕ) (low high n : ℕ) → number_in low high text ≡ Some n → high < 2 ^ 64 → IsUnsignedIn low high text
number_taken text low high n e small = by (is_number text) refl e
  where
    inside : (a b : Bool) → cond (a && b) (Some (digits_value 10 text)) None ≡ Some n → (a ≡ true) × (b ≡ true)
    inside true true e = (refl, refl)
    inside true false e = cc
    inside false b e = cc

    by : (b : Bool) → is_number text ≡ b → cond b (Rattle.command_line.specs.Modes.within low high (digits_value 10 text)) None ≡ Some n → IsUnsignedIn low high text
    by false is e = cc
    by true is e =
        let plain = is_numeral text is in
        let both = inside (nat_le low (digits_value 10 text)) (nat_le (digits_value 10 text) high) e in
        let above : low ≤ digits_value 10 text = leb-true low (digits_value 10 text) both.0 in
        let below : digits_value 10 text ≤ high = leb-true (digits_value 10 text) high both.1 in
        subst (λ (t : List ℕ). IsNumeral 10 t × (digits_value 10 t < 2 ^ 64) × (low ≤ digits_value 10 t) × (digits_value 10 t ≤ high)) (sym plain.1)
        (plain.0, omega arith, above, below)

-- the number that is read of its text
pub number_read : {E : Type 0} (G : List ℕ → Result ℕ E → Type 0) (text : List ℕ) (number : ℕ) (r : Option ℕ) → ReadsOne G text r
    → ((t : List ℕ) (x : Result ℕ E) → G t x → ParsesUnsigned 32 10 t x)
    → IsNumeral 10 (without_leading_plus text) → digits_value 10 (without_leading_plus text) ≡ number → number < 2 ^ 32 → r ≡ Some number
number_read G text number (Some v) reads only numeral value small = ap Some ((only text (Ok v) reads).1 ∙ value)
number_read G text number None reads only numeral value small =
    absurd (only text (Err reads.0) reads.1 (numeral, rw value small))
