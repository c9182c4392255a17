-- Texts between quotes, with `\` before each quote and each `\`.
use Rattle.std.proofs.Common.{◌≡◌, ◌≢◌, ℕ, zero, suc, ◌<◌, ◌≤◌, Bool, true, false, eqb, ◌&&◌, List, [], ◌∷◌, ◌++◌, length, get_or, refl, sym, ap, ◌∙◌, subst, arith, ⊎_elim, IsUtf8, append-nil}
use Rattle.std.proofs.lemmas.Bool.{and_parts, and_from, cases_lt, cases_eq, cond-false, ne_eqb, not_from_false}
use Rattle.std.proofs.lemmas.Grind.{flat_map-append}
use Rattle.std.proofs.lemmas.Str.{IsUtf8-append, IsUtf8-nil, IsUtf8-from_ascii, IsUtf8-encode, encode_ascii, inside_one}
use Rattle.std.specs.Char.{IsScalar, encode_utf8}
use Rattle.std.specs.Prelude.{◌||◌}
use Rattle.std.specs.Str.{encode_utf8_all, all_scalars}
use Rattle.ql_lex.specs.declared.token.TokenKind.TheVariants as forms
use Rattle.ql_lex.specs.Shapes.{is_plain, is_inner, IsLexeme}
use Rattle.ql_lex.specs.Values.{unescaped, text_of}
use Rattle.ql_lex.proofs.Unescaping.{unescaped_plain}
use Rattle.ql_write.specs.Pieces.{escaped_byte, escaped_text}
use Rattle.ql_write.proofs.CanonicalNames.{inside_of, enclosed_of}

-- neither `'` nor `\`
record IsBare (b : ℕ) : Type 0 where
  quote : b ≢ 39
  backslash : b ≢ 92

bare_tests : (p q : Bool) → p ≡ false → q ≡ false → (p || q) ≡ false
bare_tests p q e f = cc

bare_byte : (b : ℕ) → IsBare b → escaped_byte b ≡ b ∷ []
bare_byte b bare = cond-false (eqb b 39 || eqb b 92) (92 ∷ b ∷ []) (b ∷ []) (bare_tests (eqb b 39) (eqb b 92) (ne_eqb b 39 bare.quote) (ne_eqb b 92 bare.backslash))

-- what holds of each byte holds of `'`, of `\`, and of bare bytes
by_byte : (P : ℕ → Type 0) → P 39 → P 92 → ((b : ℕ) → IsBare b → P b) → (b : ℕ) → P b
by_byte P quote backslash bare b =
    ⊎_elim (λ (is : b ≡ 39). subst P (sym is) quote)
    (λ (no : b ≢ 39). ⊎_elim (λ (is : b ≡ 92). subst P (sym is) backslash) (λ (none : b ≢ 92). bare b (record { quote = no; backslash = none })) (cases_eq b 92))
    (cases_eq b 39)

pub unescaped_escaped : (bytes : List ℕ) → unescaped (escaped_text bytes) ≡ bytes
unescaped_escaped [] = refl
unescaped_escaped (b ∷ bytes) =
    by_byte (λ c. unescaped (escaped_byte c ++ escaped_text bytes) ≡ c ∷ bytes)
    (ap (λ (v : List ℕ). 39 ∷ v) (unescaped_escaped bytes))
    (ap (λ (v : List ℕ). 92 ∷ v) (unescaped_escaped bytes))
    (λ c bare.
    ap (λ (v : List ℕ). unescaped (v ++ escaped_text bytes)) (bare_byte c bare)
    ∙ unescaped_plain c (escaped_text bytes) bare.backslash
    ∙ ap (λ (v : List ℕ). c ∷ v) (unescaped_escaped bytes))
    b

inner_bare : (b : ℕ) → IsBare b → (rest : List ℕ) → is_inner 39 rest ≡ true → is_inner 39 (b ∷ rest) ≡ true
inner_bare b bare [] is = and_from _ _ (not_from_false (eqb b 92) (ne_eqb b 92 bare.backslash)) (not_from_false (eqb b 39) (ne_eqb b 39 bare.quote))
inner_bare b bare (c ∷ rest) is =
    cond-false (eqb b 92) (is_inner 39 rest) (is_plain 39 b && is_inner 39 (c ∷ rest)) (ne_eqb b 92 bare.backslash)
    ∙ and_from _ _ (and_from _ _ (not_from_false (eqb b 92) (ne_eqb b 92 bare.backslash)) (not_from_false (eqb b 39) (ne_eqb b 39 bare.quote))) is

inner_escaped : (bytes : List ℕ) → is_inner 39 (escaped_text bytes) ≡ true
inner_escaped [] = refl
inner_escaped (b ∷ bytes) =
    by_byte (λ c. is_inner 39 (escaped_byte c ++ escaped_text bytes) ≡ true)
    (inner_escaped bytes)
    (inner_escaped bytes)
    (λ c bare.
    ap (λ (v : List ℕ). is_inner 39 (v ++ escaped_text bytes)) (bare_byte c bare)
    ∙ inner_bare c bare (escaped_text bytes) (inner_escaped bytes))
    b

-- Escapes keep UTF-8.

ascii_two : (a b : ℕ) → a < 128 → b < 128 → IsUtf8 (a ∷ b ∷ [])
ascii_two a b first second = IsUtf8-from_ascii (a ∷ b ∷ []) each
  where
    each : (i : ℕ) → get_or (a ∷ b ∷ []) i 0 < 128
    each zero = first
    each (suc zero) = second
    each (suc (suc i)) = omega arith

ascii_one : (b : ℕ) → b < 128 → IsUtf8 (b ∷ [])
ascii_one b below = IsUtf8-from_ascii (b ∷ []) each
  where
    each : (i : ℕ) → get_or (b ∷ []) i 0 < 128
    each zero = below
    each (suc i) = omega arith

escaped_ascii : (b : ℕ) → b < 128 → IsUtf8 (escaped_byte b)
escaped_ascii b =
    by_byte (λ c. c < 128 → IsUtf8 (escaped_byte c))
    (λ below. ascii_two 92 39 (omega arith) (omega arith))
    (λ below. ascii_two 92 92 (omega arith) (omega arith))
    (λ c bare below. subst IsUtf8 (sym (bare_byte c bare)) (ascii_one c below))
    b

-- bytes from 128 on are bare
escaped_high : (bytes : List ℕ) → ((k : ℕ) → k < length bytes → 128 ≤ get_or bytes k 0) → escaped_text bytes ≡ bytes
escaped_high [] high = refl
escaped_high (b ∷ bytes) high =
    let first : 128 ≤ b = high 0 (omega arith) in
    ap (λ (v : List ℕ). v ++ escaped_text bytes) (bare_byte b (record { quote = λ is. absurd (omega arith); backslash = λ is. absurd (omega arith) }))
    ∙ ap (λ (v : List ℕ). b ∷ v) (escaped_high bytes (λ k below. high (suc k) (omega arith)))

encode_high : (c : ℕ) → 128 ≤ c → (k : ℕ) → k < length (encode_utf8 c) → 128 ≤ get_or (encode_utf8 c) k 0
encode_high c high k below =
    ⊎_elim (λ (low : get_or (encode_utf8 c) k 0 < 128). absurd (omega (arith, inside_one c [] (encode_utf8 c) k (sym (append-nil (encode_utf8 c))) below low))) (λ is. is) (cases_lt (get_or (encode_utf8 c) k 0) 128)

escaped_char : (c : ℕ) → IsScalar c → IsUtf8 (escaped_text (encode_utf8 c))
escaped_char c scalar =
    ⊎_elim (λ (low : c < 128). subst (λ (v : List ℕ). IsUtf8 (escaped_text v)) (sym (encode_ascii c low)) (subst IsUtf8 (sym (append-nil (escaped_byte c))) (escaped_ascii c low)))
    (λ (high : 128 ≤ c). subst IsUtf8 (sym (escaped_high (encode_utf8 c) (encode_high c high))) (IsUtf8-encode c scalar))
    (cases_lt c 128)

escaped_chars : (cs : List ℕ) → all_scalars cs ≡ true → IsUtf8 (escaped_text (encode_utf8_all cs))
escaped_chars [] scalars = IsUtf8-nil
escaped_chars (c ∷ cs) scalars =
    let both = and_parts _ _ scalars in
    subst IsUtf8 (sym (flat_map-append escaped_byte (encode_utf8 c) (encode_utf8_all cs))) (IsUtf8-append _ _ (escaped_char c both.0) (escaped_chars cs both.1))

pub escaped_utf8 : (bytes : List ℕ) → IsUtf8 bytes → IsUtf8 (escaped_text bytes)
escaped_utf8 bytes utf8 = subst (λ (v : List ℕ). IsUtf8 (escaped_text v)) utf8.1.1 (escaped_chars utf8.0 utf8.1.0)

pub text_fits : (bytes : List ℕ) → IsUtf8 bytes → IsLexeme forms.Text (39 ∷ escaped_text bytes ++ 39 ∷ [])
text_fits bytes utf8 = (
  record {
    quote = refl;
    enclosed = enclosed_of 39 (escaped_text bytes);
    inner = ap (is_inner 39) (inside_of 39 (escaped_text bytes)) ∙ inner_escaped bytes;
  },
  subst IsUtf8 (sym (inside_of 39 (escaped_text bytes))) (escaped_utf8 bytes utf8),
)

pub text_back : (bytes : List ℕ) → text_of (39 ∷ escaped_text bytes ++ 39 ∷ []) ≡ bytes
text_back bytes = ap unescaped (inside_of 39 (escaped_text bytes)) ∙ unescaped_escaped bytes
