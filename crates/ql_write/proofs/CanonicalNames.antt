-- Names and numbers in the tokens that they are written as.
use Rattle.std.proofs.Common.{◌≡◌, ℕ, suc, ◌-◌, ◌^◌, ◌<◌, ◌≤◌, Bool, true, false, List, [], ◌∷◌, ◌++◌, Option, Some, None, length, get_or, take, drop, refl, sym, ap, ◌∙◌, subst, arith, length-append}
use Rattle.std.proofs.Math.Seq.{take-append_seam, get_or-append_seam}
use Rattle.std.proofs.lemmas.Bool.{and_parts, and_from, le-leb}
use Rattle.std.proofs.lemmas.Bool.Decides.{nat_tests}
use Rattle.std.proofs.lemmas.Fmt.{decimal_is_IsNumeral}
use Rattle.std.proofs.lemmas.List.{length-map}
use Rattle.std.proofs.lemmas.Str.Ascii.{lowercase-lowercase}
use Rattle.std.proofs.lemmas.Str.Parse.{digit_from_value}
use Rattle.std.specs.Char.{is_ascii_digit, to_ascii_lowercase, digit_value}
use Rattle.std.specs.Fmt.{decimal}
use Rattle.std.specs.List.{list_all}
use Rattle.std.specs.Str.{str_to_ascii_lowercase}
use Rattle.std.specs.Str.Parse.{digits_value, AllDigits}
use Rattle.ql_lex.specs.declared.token.Sign.{Sign}
use Rattle.ql_lex.specs.declared.token.TokenKind.{TokenKind}
use Rattle.ql_lex.specs.declared.token.TokenKind.TheVariants as forms
use Rattle.ql_lex.specs.Shapes.{is_letter, is_name_byte, is_variable_byte, is_word, is_digits, inside, IsEnclosed, IsLexeme, sign_of}
use Rattle.ql_lex.specs.Values.{name_of}
use Rattle.ql_lex.proofs.Heads.{each_ascii}
use Rattle.ql_grammar.specs.declared.keyword.Keyword.{Keyword}
use Rattle.ql_grammar.specs.declared.kind.Kind.{Kind}
use Rattle.ql_grammar.specs.declared.kind.Kind.TheVariants as kinds
use Rattle.ql_grammar.specs.Tokens.{kind_by, name_kind, sign_kind}
use Rattle.ql_grammar.specs.Classes.{is_name}
use Rattle.ql_grammar.specs.Keywords.{keyword_named}

-- what stands between two quotes
pub inside_of : (q : ℕ) (xs : List ℕ) → inside (q ∷ xs ++ q ∷ []) ≡ xs
inside_of q xs =
    let size : length (q ∷ xs ++ q ∷ []) - 1 - 1 ≡ length xs = omega (arith, length-append xs (q ∷ [])) in
    ap (λ n. take n (xs ++ q ∷ [])) size ∙ take-append_seam xs (q ∷ [])

pub enclosed_of : (q : ℕ) (xs : List ℕ) → IsEnclosed q (q ∷ xs ++ q ∷ [])
enclosed_of q xs =
    let size : length (q ∷ xs ++ q ∷ []) - 1 ≡ suc (length xs) = omega (arith, length-append xs (q ∷ [])) in
    record {
      two = omega (arith, length-append xs (q ∷ []));
      opens = refl;
      closes = ap (λ n. get_or (q ∷ xs ++ q ∷ []) n 0) size ∙ get_or-append_seam xs q [] 0;
    }

-- Letters stay letters when they are made small.

letter_ascii : (b : ℕ) → is_letter b ≡ true → b < 128
letter_ascii b is = grind (arith, nat_tests)

name_ascii : (b : ℕ) → is_name_byte b ≡ true → b < 128
name_ascii b is = grind (arith, nat_tests)

variable_ascii : (b : ℕ) → is_variable_byte b ≡ true → b < 128
variable_ascii b is = grind (arith, nat_tests)

small_letter : (b : ℕ) → is_letter b ≡ true → is_letter (to_ascii_lowercase b) ≡ true
small_letter b is = each_ascii is_letter (λ c. is_letter (to_ascii_lowercase c)) refl b (letter_ascii b is) is

small_name_byte : (b : ℕ) → is_name_byte b ≡ true → is_name_byte (to_ascii_lowercase b) ≡ true
small_name_byte b is = each_ascii is_name_byte (λ c. is_name_byte (to_ascii_lowercase c)) refl b (name_ascii b is) is

small_variable_byte : (b : ℕ) → is_variable_byte b ≡ true → is_variable_byte (to_ascii_lowercase b) ≡ true
small_variable_byte b is = each_ascii is_variable_byte (λ c. is_variable_byte (to_ascii_lowercase c)) refl b (variable_ascii b is) is

small_all : (test : ℕ → Bool) → ((b : ℕ) → test b ≡ true → test (to_ascii_lowercase b) ≡ true) → (bytes : List ℕ) → list_all test bytes ≡ true → list_all test (str_to_ascii_lowercase bytes) ≡ true
small_all test small [] all = refl
small_all test small (b ∷ bytes) all =
    let both = and_parts (test b) (list_all test bytes) all in
    and_from _ _ (small b both.0) (small_all test small bytes both.1)

small_word : (test : ℕ → Bool) → ((b : ℕ) → test b ≡ true → test (to_ascii_lowercase b) ≡ true) → (bytes : List ℕ) → is_word test bytes ≡ true → is_word test (str_to_ascii_lowercase bytes) ≡ true
small_word test small [] is = is
small_word test small (b ∷ bytes) is =
    let both = and_parts (is_letter b) (list_all test (b ∷ bytes)) is in
    and_from _ _ (small_letter b both.0) (small_all test small (b ∷ bytes) both.1)

pub small_twice : (bytes : List ℕ) → str_to_ascii_lowercase (str_to_ascii_lowercase bytes) ≡ str_to_ascii_lowercase bytes
small_twice [] = refl
small_twice (b ∷ bytes) = ap (λ c. c ∷ str_to_ascii_lowercase (str_to_ascii_lowercase bytes)) (lowercase-lowercase b) ∙ ap (λ (v : List ℕ). to_ascii_lowercase b ∷ v) (small_twice bytes)

-- the name of a token: small letters, digits and what else its test passes
pub record IsNameBy (test : ℕ → Bool) (bytes : List ℕ) : Type 0 where
  pub keyword : is_word test bytes ≡ true
  pub size : length bytes ≤ 64
  pub small : str_to_ascii_lowercase bytes ≡ bytes

made_small : (test : ℕ → Bool) → ((b : ℕ) → test b ≡ true → test (to_ascii_lowercase b) ≡ true) → (bytes : List ℕ) → is_word test bytes ≡ true → length bytes ≤ 64 → IsNameBy test (str_to_ascii_lowercase bytes)
made_small test small bytes is size = record {
  keyword = small_word test small bytes is;
  size = omega (arith, length-map bytes to_ascii_lowercase);
  small = small_twice bytes;
}

-- What a token of a kind is.

no_name : (o : Option Sign) → is_name (sign_kind o) ≡ true → ⊥
no_name None e = cc
no_name (Some s) e = cc

pub name_facts : (form : TokenKind) (bytes : List ℕ) → IsLexeme form bytes → is_name (kind_by form bytes) ≡ true → IsNameBy is_name_byte (name_of form bytes)
unfolding kind_by
name_facts forms.Name bytes is e = made_small is_name_byte small_name_byte bytes is.0 is.1
name_facts forms.Quoted bytes is e = made_small is_name_byte small_name_byte (inside bytes) is.0.1 is.1
name_facts forms.Number bytes is e = cc
name_facts forms.Text bytes is e = cc
name_facts forms.SysVar bytes is e = cc
name_facts forms.Sign bytes is e = absurd (no_name (sign_of bytes) e)
name_facts forms.End bytes is e = cc

-- a kind that neither a keyword nor a sign has
abbrev is_other : Kind → Bool
is_other (kinds.Keyword w) = false
is_other kinds.Name = false
is_other kinds.Number = true
is_other kinds.Text = true
is_other kinds.SysVar = true
is_other (kinds.Sign s) = false
is_other kinds.End = false

no_word : (o : Option Keyword) → is_other (name_kind o) ≡ true → ⊥
no_word None e = cc
no_word (Some w) e = cc

no_sign : (o : Option Sign) → is_other (sign_kind o) ≡ true → ⊥
no_sign None e = cc
no_sign (Some s) e = cc

pub variable_facts : (form : TokenKind) (bytes : List ℕ) → IsLexeme form bytes → kind_by form bytes ≡ kinds.SysVar → IsNameBy is_variable_byte (name_of form bytes)
unfolding kind_by
variable_facts forms.Name bytes is e = absurd (no_word (keyword_named bytes) (ap is_other e))
variable_facts forms.Quoted bytes is e = cc
variable_facts forms.Number bytes is e = cc
variable_facts forms.Text bytes is e = cc
variable_facts forms.SysVar bytes is e = made_small is_variable_byte small_variable_byte (drop 2 bytes) is.0.2 is.1
variable_facts forms.Sign bytes is e = absurd (no_sign (sign_of bytes) (ap is_other e))
variable_facts forms.End bytes is e = cc

pub number_facts : (form : TokenKind) (bytes : List ℕ) → IsLexeme form bytes → kind_by form bytes ≡ kinds.Number → digits_value 10 bytes < 2 ^ 64
unfolding kind_by
number_facts forms.Name bytes is e = absurd (no_word (keyword_named bytes) (ap is_other e))
number_facts forms.Quoted bytes is e = cc
number_facts forms.Number bytes is e = is.1
number_facts forms.Text bytes is e = cc
number_facts forms.SysVar bytes is e = cc
number_facts forms.Sign bytes is e = absurd (no_sign (sign_of bytes) (ap is_other e))
number_facts forms.End bytes is e = cc

pub text_facts : (form : TokenKind) (bytes : List ℕ) → IsLexeme form bytes → kind_by form bytes ≡ kinds.Text → IsLexeme forms.Text bytes
unfolding kind_by
text_facts forms.Name bytes is e = absurd (no_word (keyword_named bytes) (ap is_other e))
text_facts forms.Quoted bytes is e = cc
text_facts forms.Number bytes is e = cc
text_facts forms.Text bytes is e = is
text_facts forms.SysVar bytes is e = cc
text_facts forms.Sign bytes is e = absurd (no_sign (sign_of bytes) (ap is_other e))
text_facts forms.End bytes is e = cc

-- Decimal digits.

digit_passes : (c : ℕ) → digit_value c < 10 → is_ascii_digit c ≡ true
digit_passes c below = let range = digit_from_value c below in and_from _ _ (le-leb 48 c range.0) (le-leb c 57 range.1)

digits_pass : (bytes : List ℕ) → AllDigits 10 bytes → list_all is_ascii_digit bytes ≡ true
digits_pass [] all = refl
digits_pass (c ∷ bytes) all = and_from _ _ (digit_passes c all.0) (digits_pass bytes all.1)

digits_are : (bytes : List ℕ) → 0 < length bytes → AllDigits 10 bytes → is_digits bytes ≡ true
digits_are [] some all = absurd (omega arith)
digits_are (c ∷ bytes) some all = and_from _ _ (digit_passes c all.0) (digits_pass (c ∷ bytes) all)

pub decimal_value : (n : ℕ) → n < 2 ^ 64 → digits_value 10 (decimal n) ≡ n
decimal_value n below = (decimal_is_IsNumeral n below).1

pub decimal_fits : (n : ℕ) → n < 2 ^ 64 → IsLexeme forms.Number (decimal n)
decimal_fits n below =
    let numeral = (decimal_is_IsNumeral n below).0 in
    (digits_are (decimal n) numeral.0 numeral.1, subst (λ m. m < 2 ^ 64) (sym (decimal_value n below)) below)
