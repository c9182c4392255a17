-- What stands at a place ends at one place.
use Rattle.std.proofs.Common.{◌≡◌, ℕ, ◌+◌, ◌-◌, ◌<◌, ◌≤◌, Bool, true, false, eqb, ◌&&◌, List, [], ◌∷◌, ◌++◌, get_or, slice_range, length, refl, sym, ap, ◌∙◌, subst, arith, ⊎_elim}
use Rattle.std.specs.Prelude.{is_some, not}
use Rattle.std.specs.Char.{is_ascii_digit}
use Rattle.std.specs.List.{list_all}
use Rattle.std.proofs.lemmas.Bool.{and_parts, and_left, cases_order, both_ways, false≢true, cond-false, eq-eqb, not_from_true, and_right}
use Rattle.ql_lex.specs.declared.token.TokenKind.{TokenKind}
use Rattle.ql_lex.specs.declared.token.TokenKind.TheVariants.{Name, Quoted, Number, Text, SysVar, Sign, End}
use Rattle.ql_lex.specs.Shapes.{is_letter, is_quote, is_digits, is_name_byte, is_variable_byte, is_word, is_plain, is_inner, IsQuotedText, IsNamed}
use Rattle.ql_lex.specs.Tokens.{IsToken, IsWhole, IsComment}
use Rattle.ql_lex.proofs.Heads.{letter_some, digit_some, quote_no_backslash}
use Rattle.ql_lex.proofs.Slices.{slice_first, slice_at, slice_drop, slice_split}
use Rattle.ql_lex.proofs.Runs.{passes_at}
use Rattle.ql_lex.proofs.Enclosed.{quotes_from, inside_from}
use Rattle.ql_lex.proofs.TextTokens.{EndsAt, ends_from}
use Rattle.ql_lex.proofs.Inner.{inner_append}
use Rattle.ql_lex.proofs.BadBytes.{variable_letter}

-- where neither of two places comes first they are one
same_place : (a b : ℕ) → (a < b → ⊥) → (b < a → ⊥) → a ≡ b
same_place a b no_first no_second = ⊎_elim (λ is. is) (⊎_elim (λ first. absurd (no_first first)) (λ second. absurd (no_second second))) (cases_order a b)

-- where a word at a place begins and how
word_start : (p : ℕ → Bool) (text : List ℕ) (at to : ℕ) → is_word p (slice_range text at to) ≡ true → (at < to) × (list_all p (slice_range text at to) ≡ true)
word_start p text at to word =
    let both = and_parts (is_letter (get_or (slice_range text at to) 0 0)) (list_all p (slice_range text at to)) word in
    ((slice_first text at to (letter_some (get_or (slice_range text at to) 0 0) both.0)).0, both.1)

word_before : (p : ℕ → Bool) (text : List ℕ) (at a b : ℕ) → b ≤ length text → is_word p (slice_range text at a) ≡ true → is_word p (slice_range text at b) ≡ true → p (get_or text a 0) ≡ false → a < b → ⊥
word_before p text at a b within first second stops before =
    both_ways (p (get_or text a 0)) stops (passes_at p text at b a within (omega (arith, (word_start p text at a first).0)) before (word_start p text at b second).1)

digits_start : (text : List ℕ) (at to : ℕ) → is_digits (slice_range text at to) ≡ true → (at < to) × (list_all is_ascii_digit (slice_range text at to) ≡ true)
digits_start text at to digits =
    let both = and_parts (is_ascii_digit (get_or (slice_range text at to) 0 0)) (list_all is_ascii_digit (slice_range text at to)) digits in
    ((slice_first text at to (digit_some (get_or (slice_range text at to) 0 0) both.0)).0, both.1)

digits_before : (text : List ℕ) (at a b : ℕ) → b ≤ length text → is_digits (slice_range text at a) ≡ true → is_digits (slice_range text at b) ≡ true → is_ascii_digit (get_or text a 0) ≡ false → a < b → ⊥
digits_before text at a b within first second stops before =
    both_ways (is_ascii_digit (get_or text a 0)) stops (passes_at is_ascii_digit text at b a within (omega (arith, (digits_start text at a first).0)) before (digits_start text at b second).1)

pub digits_end : (text : List ℕ) (at a b : ℕ) → a ≤ length text → b ≤ length text → is_digits (slice_range text at a) ≡ true → is_digits (slice_range text at b) ≡ true → is_ascii_digit (get_or text a 0) ≡ false → is_ascii_digit (get_or text b 0) ≡ false → a ≡ b
digits_end text at a b a_within b_within first second a_stops b_stops =
    same_place a b (digits_before text at a b b_within first second a_stops) (digits_before text at b a a_within second first b_stops)

pub digits_some : (text : List ℕ) (at to : ℕ) → is_digits (slice_range text at to) ≡ true → at < to
digits_some text at to digits = (digits_start text at to digits).0

-- names of one kind
quoted_before : (text : List ℕ) (at a b : ℕ) → a ≤ length text → b ≤ length text → IsNamed Quoted (slice_range text at a) → IsNamed Quoted (slice_range text at b) → a < b → ⊥
quoted_before text at a b a_within b_within first second before =
    let ends = quotes_from 96 text at a a_within first.0 in
    let others = quotes_from 96 text at b b_within second.0 in
    let word : is_word is_name_byte (slice_range text (at + 1) (b - 1)) ≡ true = subst (λ (l : List ℕ). is_word is_name_byte l ≡ true) (inside_from 96 text at b b_within second.0) second.1 in
    let passes : is_name_byte (get_or text (a - 1) 0) ≡ true = passes_at is_name_byte text (at + 1) (b - 1) (a - 1) (omega (arith, others.1.within)) (omega (arith, ends.1.before)) (omega (arith, ends.0, others.0)) (word_start is_name_byte text (at + 1) (b - 1) word).1 in
    false≢true (subst (λ c. is_name_byte c ≡ true) ends.1.closes passes)

variable_word : (text : List ℕ) (at to : ℕ) → to ≤ length text → IsNamed SysVar (slice_range text at to) → is_word is_variable_byte (slice_range text (at + 2) to) ≡ true
variable_word text at to within named =
    let letter : is_letter (get_or (slice_range text at to) 2 0) ≡ true = variable_letter text at to named in
    let third = slice_at text at to 2 (letter_some (get_or (slice_range text at to) 2 0) letter) in
    subst (λ (l : List ℕ). is_word is_variable_byte l ≡ true) (slice_drop text at to 2 within (omega (arith, third.0))) named.2

variable_before : (text : List ℕ) (at a b : ℕ) → a ≤ length text → b ≤ length text → IsNamed SysVar (slice_range text at a) → IsNamed SysVar (slice_range text at b) → is_variable_byte (get_or text a 0) ≡ false → a < b → ⊥
variable_before text at a b a_within b_within first second stops before =
    word_before is_variable_byte text (at + 2) a b b_within (variable_word text at a a_within first) (variable_word text at b b_within second) stops before

pub named_end : (kind : TokenKind) (text : List ℕ) (at a b : ℕ) → a ≤ length text → b ≤ length text → IsNamed kind (slice_range text at a) → IsNamed kind (slice_range text at b) → IsWhole kind text at a → IsWhole kind text at b → a ≡ b
named_end Name text at a b a_within b_within first second a_whole b_whole =
    same_place a b (word_before is_name_byte text at a b b_within first second a_whole) (word_before is_name_byte text at b a a_within second first b_whole)
named_end Quoted text at a b a_within b_within first second a_whole b_whole =
    same_place a b (quoted_before text at a b a_within b_within first second) (quoted_before text at b a b_within a_within second first)
named_end SysVar text at a b a_within b_within first second a_whole b_whole =
    same_place a b (variable_before text at a b a_within b_within first second a_whole) (variable_before text at b a b_within a_within second first b_whole)
named_end Number text at a b a_within b_within first second a_whole b_whole = absurd first
named_end Text text at a b a_within b_within first second a_whole b_whole = absurd first
named_end Sign text at a b a_within b_within first second a_whole b_whole = absurd first
named_end End text at a b a_within b_within first second a_whole b_whole = absurd first

-- a quote that isn't escaped doesn't stand inside of a text
quote_ends : (quote : ℕ) (rest : List ℕ) → is_quote quote ≡ true → is_inner quote (quote ∷ rest) ≡ false
quote_ends quote [] is = no_plain quote
  where
    no_plain : (q : ℕ) → is_plain q q ≡ false
    no_plain q = and_right (not (eqb q 92)) (not (eqb q q)) (not_from_true (eqb q q) (eq-eqb q q refl))
quote_ends quote (c ∷ rest) is =
    cond-false (eqb quote 92) (is_inner quote rest) (is_plain quote quote && is_inner quote (c ∷ rest)) (quote_no_backslash quote is)
    ∙ and_left (is_plain quote quote) (is_inner quote (c ∷ rest)) (and_right (not (eqb quote 92)) (not (eqb quote quote)) (not_from_true (eqb quote quote) (eq-eqb quote quote refl)))

text_before : (text : List ℕ) (at a b : ℕ) → EndsAt text at a → EndsAt text at b → a < b → ⊥
text_before text at a b first second before =
    let quote : ℕ = get_or text at 0 in
    let split : slice_range text (at + 1) b ≡ slice_range text (at + 1) a ++ get_or text a 0 ∷ slice_range text (a + 1) b = slice_split text (at + 1) a b (omega (arith, first.quotes.before)) before (omega (arith, second.quotes.within)) in
    let inner : is_inner quote (get_or text a 0 ∷ slice_range text (a + 1) b) ≡ true =
    sym (inner_append quote (slice_range text (at + 1) a) (get_or text a 0 ∷ slice_range text (a + 1) b) first.inner) ∙ ap (is_inner quote) (sym split) ∙ second.inner in
    both_ways (is_inner quote (get_or text a 0 ∷ slice_range text (a + 1) b)) (ap (λ (c : ℕ). is_inner quote (c ∷ slice_range text (a + 1) b)) first.quotes.closes ∙ quote_ends quote (slice_range text (a + 1) b) first.quote) inner

pub text_end : (text : List ℕ) (at a b : ℕ) → a ≤ length text → b ≤ length text → IsQuotedText (slice_range text at a) → IsQuotedText (slice_range text at b) → a ≡ b
text_end text at a b a_within b_within first second =
    let one = ends_from text at a a_within first in
    let other = ends_from text at b b_within second in
    one.0 ∙ ap (λ n. n + 1) (same_place (a - 1) (b - 1) (text_before text at (a - 1) (b - 1) one.1 other.1) (text_before text at (b - 1) (a - 1) other.1 one.1)) ∙ sym other.0

pub comment_end : (text : List ℕ) (at a b : ℕ) → IsComment text at a → IsComment text at b → a ≡ b
comment_end text at a b first second =
    first.is ∙ ap (λ n. n + 2) (same_place first.last second.last (λ before. second.next first.last first.behind before first.closes) (λ before. first.next second.last second.behind before second.closes)) ∙ sym second.is

-- two tokens of one kind at a place
pub token_end : (kind : TokenKind) (text : List ℕ) (at a b : ℕ) → IsToken kind text at a → IsToken kind text at b → a ≡ b
token_end Name text at a b first second = named_end Name text at a b first.within second.within first.lexeme.0 second.lexeme.0 first.whole second.whole
token_end Quoted text at a b first second = named_end Quoted text at a b first.within second.within first.lexeme.0 second.lexeme.0 first.whole second.whole
token_end SysVar text at a b first second = named_end SysVar text at a b first.within second.within first.lexeme.0 second.lexeme.0 first.whole second.whole
token_end Number text at a b first second = digits_end text at a b first.within second.within first.lexeme.0 second.lexeme.0 first.whole.0 second.whole.0
token_end Text text at a b first second = text_end text at a b first.within second.within first.lexeme.0 second.lexeme.0
token_end Sign text at a b first second =
    same_place a b (λ before. false≢true (ap is_some (sym (first.whole b before second.within)) ∙ second.lexeme)) (λ before. false≢true (ap is_some (sym (second.whole a before first.within)) ∙ first.lexeme))
token_end End text at a b first second = absurd first.whole

-- a name has bytes
pub named_some : (kind : TokenKind) (text : List ℕ) (at to : ℕ) → IsNamed kind (slice_range text at to) → at < to
named_some Name text at to named = (word_start is_name_byte text at to named).0
named_some Quoted text at to named = (slice_first text at to (omega (arith, named.0.opens))).0
named_some SysVar text at to named = (slice_first text at to (omega (arith, named.0))).0
named_some Number text at to named = absurd named
named_some Text text at to named = absurd named
named_some Sign text at to named = absurd named
named_some End text at to named = absurd named
