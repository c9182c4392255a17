-- What a part of a text, or a fault, says of the byte at its place.
use Rattle.std.proofs.Common.{◌≡◌, ℕ, ◌<◌, Bool, true, false, cond, ◌&&◌, eqb, List, [], ◌∷◌, Option, Some, None, get_or, slice_range, refl, sym, ap, ◌∙◌, subst, arith, ⊎_elim, inl, inr}
use Rattle.std.specs.Prelude.{◌⊎◌, is_some}
use Rattle.std.specs.Char.{is_ascii_digit}
use Rattle.std.specs.List.{list_all}
use Rattle.std.proofs.lemmas.Bool.{and_parts, eqb-true, false≢true}
use Rattle.ql_lex.specs.declared.part.Part.{Part}
use Rattle.ql_lex.specs.declared.part.Part.TheVariants as parts
use Rattle.ql_lex.specs.declared.token.TokenKind.{TokenKind}
use Rattle.ql_lex.specs.declared.token.TokenKind.TheVariants.{Name, Quoted, Number, Text, SysVar, Sign, End}
use Rattle.ql_lex.specs.declared.token.Sign.TheVariants as signs
use Rattle.ql_lex.specs.Shapes.{is_letter, is_digits, is_name_byte, is_word, IsQuotedText, IsNamed, sign_of, sign_of_one, sign_of_two}
use Rattle.ql_lex.specs.Tokens.{IsToken, Stands, IsUnclosed, open_text, open_name}
use Rattle.ql_lex.proofs.Heads.{head, head_letter, head_digit, head_quote, head_blank, letter_some, digit_some, quote_some}
use Rattle.ql_lex.proofs.Slices.{slice_first}

abbrev pub kind_head : TokenKind → ℕ
kind_head Name = 2
kind_head Quoted = 5
kind_head Number = 3
kind_head Text = 4
kind_head SysVar = 6
kind_head Sign = 0
kind_head End = 9

-- the kind of a head
kind_of_head : ℕ → TokenKind
kind_of_head h = cond (eqb h 2) Name (cond (eqb h 5) Quoted (cond (eqb h 3) Number (cond (eqb h 4) Text (cond (eqb h 6) SysVar (cond (eqb h 0) Sign End)))))

kind_back : (kind : TokenKind) → kind_of_head (kind_head kind) ≡ kind
unfolding kind_of_head
kind_back Name = refl
kind_back Quoted = refl
kind_back Number = refl
kind_back Text = refl
kind_back SysVar = refl
kind_back Sign = refl
kind_back End = refl

-- kinds with one head are one
pub same_kind : (j k : TokenKind) → kind_head j ≡ kind_head k → j ≡ k
same_kind j k same = sym (kind_back j) ∙ ap kind_of_head same ∙ kind_back k

abbrev pub part_head : Part → ℕ
part_head parts.Blank = 1
part_head (parts.Comment to) = 7
part_head (parts.Token kind to) = kind_head kind

-- the first byte of a part of a text that begins with a byte of this head
first_head : (text : List ℕ) (at to : ℕ) (h : ℕ) → 0 < get_or (slice_range text at to) 0 0 → head (get_or (slice_range text at to) 0 0) ≡ h → head (get_or text at 0) ≡ h
first_head text at to h some is = ap head (sym (slice_first text at to some).1) ∙ is

word_head : (p : ℕ → Bool) (text : List ℕ) (at to : ℕ) → is_word p (slice_range text at to) ≡ true → head (get_or text at 0) ≡ 2
word_head p text at to word =
    let letter : is_letter (get_or (slice_range text at to) 0 0) ≡ true = (and_parts _ (list_all p (slice_range text at to)) word).0 in
    first_head text at to 2 (letter_some (get_or (slice_range text at to) 0 0) letter) (head_letter (get_or (slice_range text at to) 0 0) letter)

pub digits_head : (text : List ℕ) (at to : ℕ) → is_digits (slice_range text at to) ≡ true → head (get_or text at 0) ≡ 3
digits_head text at to digits =
    let digit : is_ascii_digit (get_or (slice_range text at to) 0 0) ≡ true = (and_parts _ (list_all is_ascii_digit (slice_range text at to)) digits).0 in
    first_head text at to 3 (digit_some (get_or (slice_range text at to) 0 0) digit) (head_digit (get_or (slice_range text at to) 0 0) digit)

pub text_head : (text : List ℕ) (at to : ℕ) → IsQuotedText (slice_range text at to) → head (get_or text at 0) ≡ 4
text_head text at to is = first_head text at to 4 (quote_some (get_or (slice_range text at to) 0 0) is.quote) (head_quote (get_or (slice_range text at to) 0 0) is.quote)

-- a byte that is known
byte_head : (text : List ℕ) (at to b : ℕ) → 0 < b → get_or (slice_range text at to) 0 0 ≡ b → head (get_or text at 0) ≡ head b
byte_head text at to b some is = first_head text at to (head b) (omega (arith, is)) (ap head is)

pub named_head : (kind : TokenKind) (text : List ℕ) (at to : ℕ) → IsNamed kind (slice_range text at to) → head (get_or text at 0) ≡ kind_head kind
named_head Name text at to is = word_head is_name_byte text at to is
named_head Quoted text at to is = byte_head text at to 96 (omega arith) is.0.opens
named_head SysVar text at to is = byte_head text at to 64 (omega arith) is.0
named_head Number text at to is = absurd is
named_head Text text at to is = absurd is
named_head Sign text at to is = absurd is
named_head End text at to is = absurd is

-- where the first of two choices isn't taken the other one is
some_of : {S : Type 0} (b : Bool) (x : S) (rest : Option S) → is_some (cond b (Some x) rest) ≡ true → (b ≡ true) ⊎ (is_some rest ≡ true)
some_of true x rest is = inl refl
some_of false x rest is = inr is

-- a byte that some sign begins with
abbrev SignHead : ℕ → Type 0
SignHead b = (0 < b) × (head b ≡ 0)

at_byte : (b c : ℕ) → SignHead c → eqb b c ≡ true → SignHead b
at_byte b c is same = subst SignHead (sym (eqb-true b c same)) is

one_head : (b : ℕ) → is_some (sign_of_one b) ≡ true → SignHead b
one_head b is =
    ⊎_elim (at_byte b 40 (omega arith, refl)) (λ r1.
    ⊎_elim (at_byte b 41 (omega arith, refl)) (λ r2.
    ⊎_elim (at_byte b 44 (omega arith, refl)) (λ r3.
    ⊎_elim (at_byte b 59 (omega arith, refl)) (λ r4.
    ⊎_elim (at_byte b 42 (omega arith, refl)) (λ r5.
    ⊎_elim (at_byte b 45 (omega arith, refl)) (λ r6.
    ⊎_elim (at_byte b 61 (omega arith, refl)) (λ r7.
    ⊎_elim (at_byte b 60 (omega arith, refl)) (λ r8.
    ⊎_elim (at_byte b 62 (omega arith, refl)) (λ r9. absurd (cc))
    (some_of _ _ _ r8)) (some_of _ _ _ r7)) (some_of _ _ _ r6)) (some_of _ _ _ r5)) (some_of _ _ _ r4)) (some_of _ _ _ r3)) (some_of _ _ _ r2)) (some_of _ _ _ r1)) (some_of _ _ _ is)

two_head : (a b : ℕ) → is_some (sign_of_two a b) ≡ true → SignHead a
two_head a b is =
    ⊎_elim (λ (p : (eqb a 33 && eqb b 61) ≡ true). at_byte a 33 (omega arith, refl) (and_parts (eqb a 33) (eqb b 61) p).0) (λ r1.
    ⊎_elim (λ (p : (eqb a 60 && eqb b 62) ≡ true). at_byte a 60 (omega arith, refl) (and_parts (eqb a 60) (eqb b 62) p).0) (λ r2.
    ⊎_elim (λ (p : (eqb a 60 && eqb b 61) ≡ true). at_byte a 60 (omega arith, refl) (and_parts (eqb a 60) (eqb b 61) p).0) (λ r3.
    ⊎_elim (λ (p : (eqb a 62 && eqb b 61) ≡ true). at_byte a 62 (omega arith, refl) (and_parts (eqb a 62) (eqb b 61) p).0) (λ r4. absurd (false≢true r4))
    (some_of (eqb a 62 && eqb b 61) signs.GreaterOrEqual None r3)) (some_of (eqb a 60 && eqb b 61) signs.LessOrEqual _ r2)) (some_of (eqb a 60 && eqb b 62) signs.NotEqual _ r1)) (some_of (eqb a 33 && eqb b 61) signs.NotEqual _ is)

-- the second byte of a sign of two
pub two_second : (a b : ℕ) → is_some (sign_of_two a b) ≡ true → 0 < b
two_second a b is =
    ⊎_elim (λ (p : (eqb a 33 && eqb b 61) ≡ true). known b 61 (omega arith) (and_parts (eqb a 33) (eqb b 61) p).1) (λ r1.
    ⊎_elim (λ (p : (eqb a 60 && eqb b 62) ≡ true). known b 62 (omega arith) (and_parts (eqb a 60) (eqb b 62) p).1) (λ r2.
    ⊎_elim (λ (p : (eqb a 60 && eqb b 61) ≡ true). known b 61 (omega arith) (and_parts (eqb a 60) (eqb b 61) p).1) (λ r3.
    ⊎_elim (λ (p : (eqb a 62 && eqb b 61) ≡ true). known b 61 (omega arith) (and_parts (eqb a 62) (eqb b 61) p).1) (λ r4. absurd (false≢true r4))
    (some_of (eqb a 62 && eqb b 61) signs.GreaterOrEqual None r3)) (some_of (eqb a 60 && eqb b 61) signs.LessOrEqual _ r2)) (some_of (eqb a 60 && eqb b 62) signs.NotEqual _ r1)) (some_of (eqb a 33 && eqb b 61) signs.NotEqual _ is)
  where
    known : (x y : ℕ) → 0 < y → eqb x y ≡ true → 0 < x
    known x y some same = omega (arith, eqb-true x y same)

pub signs_head : (bytes : List ℕ) → is_some (sign_of bytes) ≡ true → SignHead (get_or bytes 0 0)
signs_head [] is = absurd (cc)
signs_head (a ∷ []) is = one_head a is
signs_head (a ∷ b ∷ []) is = two_head a b is
signs_head (a ∷ b ∷ c ∷ bytes) is = absurd (cc)

pub sign_head : (text : List ℕ) (at to : ℕ) → is_some (sign_of (slice_range text at to)) ≡ true → head (get_or text at 0) ≡ 0
sign_head text at to is = let first = signs_head (slice_range text at to) is in first_head text at to 0 first.0 first.1

pub token_head : (kind : TokenKind) (text : List ℕ) (at to : ℕ) → IsToken kind text at to → head (get_or text at 0) ≡ kind_head kind
token_head Name text at to is = named_head Name text at to is.lexeme.0
token_head Quoted text at to is = named_head Quoted text at to is.lexeme.0
token_head SysVar text at to is = named_head SysVar text at to is.lexeme.0
token_head Number text at to is = digits_head text at to is.lexeme.0
token_head Text text at to is = text_head text at to is.lexeme.0
token_head Sign text at to is = sign_head text at to is.lexeme
token_head End text at to is = absurd is.whole

pub stands_head : (text : List ℕ) (at : ℕ) (part : Part) → Stands text at part → head (get_or text at 0) ≡ part_head part
stands_head text at parts.Blank is = head_blank (get_or text at 0) is
stands_head text at (parts.Comment to) is = ap head is.opens.slash
stands_head text at (parts.Token kind to) is = token_head kind text at to is

pub unclosed_head : (text : List ℕ) (at : ℕ) → IsUnclosed text at → (head (get_or text at 0) ≡ 4) ⊎ (head (get_or text at 0) ≡ 5)
unclosed_head text at (open_text quote none) = inl (head_quote (get_or text at 0) quote)
unclosed_head text at (open_name quote none) = inr (ap head quote)
