-- What the first byte says of what stands at a place.
use Rattle.std.proofs.Common.{◌≡◌, ℕ, ◌<◌, Bool, true, false, cond, ◌&&◌, eqb, refl, ◌∙◌, arith}
use Rattle.std.specs.Prelude.{not}
use Rattle.std.specs.Char.{is_ascii_digit}
use Rattle.std.proofs.lemmas.Bool.{agree_below, agree_below_at, and_parts, eqb-true, not-true}
use Rattle.std.proofs.lemmas.Bool.Decides.{nat_tests}
use Rattle.ql_lex.specs.Shapes.{is_blank, is_letter, is_name_byte, is_variable_byte, is_quote}

-- What begins with a byte: 1 for a blank, 2 for a name, 3 for a number, 4 for a text, 5 for a name in backquotes, 6 for a
-- system variable, 7 for a comment, and 0 for a sign or nothing.
abbrev pub head : ℕ → ℕ
head b =
    cond (is_blank b) 1 (cond (is_letter b) 2 (cond (is_ascii_digit b) 3 (cond (is_quote b) 4 (cond (eqb b 96) 5 (cond (eqb b 64) 6 (cond (eqb b 47) 7 0))))))

-- a test that passes no byte from 128 on, and what holds of each byte below that it passes
pub each_ascii : (p q : ℕ → Bool) → agree_below (λ b. p b && q b) p 128 ≡ true → (b : ℕ) → b < 128 → p b ≡ true → q b ≡ true
each_ascii p q agree b below passes = (and_parts (p b) (q b) (agree_below_at (λ c. p c && q c) p 128 b agree below ∙ passes)).1

letter_small : (b : ℕ) → is_letter b ≡ true → b < 128
letter_small b is = grind (arith, nat_tests)

digit_small : (b : ℕ) → is_ascii_digit b ≡ true → b < 128
digit_small b is = grind (arith, nat_tests)

quote_small : (b : ℕ) → is_quote b ≡ true → b < 128
quote_small b is = grind (arith, nat_tests)

blank_small : (b : ℕ) → is_blank b ≡ true → b < 128
blank_small b is = grind (arith, nat_tests)

pub head_letter : (b : ℕ) → is_letter b ≡ true → head b ≡ 2
head_letter b is = eqb-true (head b) 2 (each_ascii is_letter (λ c. eqb (head c) 2) refl b (letter_small b is) is)

pub head_digit : (b : ℕ) → is_ascii_digit b ≡ true → head b ≡ 3
head_digit b is = eqb-true (head b) 3 (each_ascii is_ascii_digit (λ c. eqb (head c) 3) refl b (digit_small b is) is)

pub head_quote : (b : ℕ) → is_quote b ≡ true → head b ≡ 4
head_quote b is = eqb-true (head b) 4 (each_ascii is_quote (λ c. eqb (head c) 4) refl b (quote_small b is) is)

pub head_blank : (b : ℕ) → is_blank b ≡ true → head b ≡ 1
head_blank b is = eqb-true (head b) 1 (each_ascii is_blank (λ c. eqb (head c) 1) refl b (blank_small b is) is)

-- a letter may stand in a name, and in the name of a system variable
pub letter_in_name : (b : ℕ) → is_letter b ≡ true → is_name_byte b ≡ true
letter_in_name b is = each_ascii is_letter is_name_byte refl b (letter_small b is) is

pub letter_in_variable : (b : ℕ) → is_letter b ≡ true → is_variable_byte b ≡ true
letter_in_variable b is = each_ascii is_letter is_variable_byte refl b (letter_small b is) is

-- bytes of tokens aren't 0
pub letter_some : (b : ℕ) → is_letter b ≡ true → 0 < b
letter_some b is = grind (arith, nat_tests)

pub digit_some : (b : ℕ) → is_ascii_digit b ≡ true → 0 < b
digit_some b is = grind (arith, nat_tests)

pub quote_some : (b : ℕ) → is_quote b ≡ true → 0 < b
quote_some b is = grind (arith, nat_tests)

pub blank_some : (b : ℕ) → is_blank b ≡ true → 0 < b
blank_some b is = grind (arith, nat_tests)

pub quote_no_backslash : (b : ℕ) → is_quote b ≡ true → eqb b 92 ≡ false
quote_no_backslash b is = not-true (eqb b 92) (each_ascii is_quote (λ c. not (eqb c 92)) refl b (quote_small b is) is)
