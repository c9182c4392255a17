-- The value of a text is UTF-8.
use Rattle.std.proofs.Common.{◌≡◌, ◌≢◌, ℕ, zero, suc, ◌<◌, ◌≤◌, true, eqb, ltb, List, [], ◌∷◌, ◌++◌, length, get_or, refl, sym, ap, ◌∙◌, subst, arith, ⊎_elim, IsUtf8}
use Rattle.std.specs.Char.{IsScalar, encode_utf8}
use Rattle.std.specs.Str.{encode_utf8_all, all_scalars}
use Rattle.std.proofs.lemmas.Bool.{and_parts, cases_lt, cases_eq, cond-false, ne_eqb, ltb-true}
use Rattle.std.proofs.lemmas.List.{append-nil}
use Rattle.std.proofs.lemmas.Str.{IsUtf8-append, IsUtf8-nil, IsUtf8-from_ascii, IsUtf8-encode, encode_ascii, inside_one, length-encode, len_utf8_bounds}
use Rattle.ql_lex.specs.Values.{escaped, unescaped}
use Rattle.ql_lex.proofs.Heads.{each_ascii}
use Rattle.ql_lex.proofs.Unescaping.{unescaped_plain}

-- bytes from 128 on stand for themselves
unescaped_high : (xs rest : List ℕ) → ((k : ℕ) → k < length xs → 128 ≤ get_or xs k 0) → unescaped (xs ++ rest) ≡ xs ++ unescaped rest
unescaped_high [] rest high = refl
unescaped_high (x ∷ xs) rest high =
    let first : 128 ≤ x = high 0 (omega arith) in
    unescaped_plain x (xs ++ rest) (omega arith) ∙ ap (λ (l : List ℕ). x ∷ l) (unescaped_high xs rest (λ k below. high (suc k) (omega arith)))

escaped_itself : (b : ℕ) → 128 ≤ b → escaped b ≡ b
escaped_itself b high =
    cond-false (eqb b 110) _ _ (ne_eqb b 110 (omega arith))
    ∙ cond-false (eqb b 114) _ _ (ne_eqb b 114 (omega arith))
    ∙ cond-false (eqb b 116) _ _ (ne_eqb b 116 (omega arith))
    ∙ cond-false (eqb b 48) _ _ (ne_eqb b 48 (omega arith))

-- so do they after a `\`
escaped_high : (xs rest : List ℕ) → 0 < length xs → ((k : ℕ) → k < length xs → 128 ≤ get_or xs k 0) → unescaped (92 ∷ (xs ++ rest)) ≡ xs ++ unescaped rest
escaped_high [] rest some high = absurd (omega arith)
escaped_high (x ∷ xs) rest some high =
    ap (λ (b : ℕ). b ∷ unescaped (xs ++ rest)) (escaped_itself x (high 0 (omega arith)))
    ∙ ap (λ (l : List ℕ). x ∷ l) (unescaped_high xs rest (λ k below. high (suc k) (omega arith)))

escaped_ascii : (b : ℕ) → b < 128 → escaped b < 128
escaped_ascii b below = ltb-true (escaped b) 128 (each_ascii (λ c. true) (λ c. ltb (escaped c) 128) refl b below refl)

-- the bytes of a character from 128 on are from 128 on
encode_high : (c : ℕ) → 128 ≤ c → (k : ℕ) → k < length (encode_utf8 c) → 128 ≤ get_or (encode_utf8 c) k 0
encode_high c high k below =
    ⊎_elim (λ (low : get_or (encode_utf8 c) k 0 < 128). absurd (omega (arith, inside_one c [] (encode_utf8 c) k (sym (append-nil (encode_utf8 c))) below low))) (λ is. is) (cases_lt (get_or (encode_utf8 c) k 0) 128)

encode_some : (c : ℕ) → 0 < length (encode_utf8 c)
encode_some c = omega (arith, length-encode c, (len_utf8_bounds c).0)

ascii_byte : (b : ℕ) → b < 128 → IsUtf8 (b ∷ [])
ascii_byte b below = IsUtf8-from_ascii (b ∷ []) each
  where
    each : (i : ℕ) → get_or (b ∷ []) i 0 < 128
    each zero = below
    each (suc i) = omega arith

-- a character that isn't `\`, and then what has a value that is UTF-8
value_char : (c : ℕ) (rest : List ℕ) → IsScalar c → c ≢ 92 → IsUtf8 (unescaped rest) → IsUtf8 (unescaped (encode_utf8 c ++ rest))
value_char c rest scalar other utf8 =
    ⊎_elim (λ (low : c < 128).
    subst IsUtf8 (sym (ap (λ (l : List ℕ). unescaped (l ++ rest)) (encode_ascii c low) ∙ unescaped_plain c rest other)) (IsUtf8-append (c ∷ []) (unescaped rest) (ascii_byte c low) utf8))
    (λ (high : 128 ≤ c).
    subst IsUtf8 (sym (unescaped_high (encode_utf8 c) rest (encode_high c high))) (IsUtf8-append (encode_utf8 c) (unescaped rest) (IsUtf8-encode c scalar) utf8))
    (cases_lt c 128)

-- an escaped character
value_escaped : (c : ℕ) (rest : List ℕ) → IsScalar c → IsUtf8 (unescaped rest) → IsUtf8 (unescaped (92 ∷ (encode_utf8 c ++ rest)))
value_escaped c rest scalar utf8 =
    ⊎_elim (λ (low : c < 128).
    subst IsUtf8 (sym (ap (λ (l : List ℕ). unescaped (92 ∷ (l ++ rest))) (encode_ascii c low))) (IsUtf8-append (escaped c ∷ []) (unescaped rest) (ascii_byte (escaped c) (escaped_ascii c low)) utf8))
    (λ (high : 128 ≤ c).
    subst IsUtf8 (sym (escaped_high (encode_utf8 c) rest (encode_some c) (encode_high c high))) (IsUtf8-append (encode_utf8 c) (unescaped rest) (IsUtf8-encode c scalar) utf8))
    (cases_lt c 128)

value_utf8 : (cs : List ℕ) → all_scalars cs ≡ true → IsUtf8 (unescaped (encode_utf8_all cs))
value_utf8 [] scalars = IsUtf8-nil
value_utf8 (c ∷ []) scalars =
    ⊎_elim (λ (is : c ≡ 92). subst (λ b. IsUtf8 (unescaped (encode_utf8 b ++ []))) (sym is) (subst (λ (l : List ℕ). IsUtf8 (unescaped (l ++ []))) (sym (encode_ascii 92 (omega arith))) (ascii_byte 92 (omega arith))))
    (λ other. value_char c [] (and_parts _ _ scalars).0 other IsUtf8-nil)
    (cases_eq c 92)
value_utf8 (c ∷ d ∷ cs) scalars =
    let both = and_parts _ _ scalars in
    ⊎_elim (λ (is : c ≡ 92).
    subst (λ b. IsUtf8 (unescaped (encode_utf8 b ++ (encode_utf8 d ++ encode_utf8_all cs)))) (sym is)
    (subst (λ (l : List ℕ). IsUtf8 (unescaped (l ++ (encode_utf8 d ++ encode_utf8_all cs)))) (sym (encode_ascii 92 (omega arith)))
    (value_escaped d (encode_utf8_all cs) (and_parts _ _ both.1).0 (value_utf8 cs (and_parts _ _ both.1).1))))
    (λ other. value_char c (encode_utf8_all (d ∷ cs)) both.0 other (value_utf8 (d ∷ cs) both.1))
    (cases_eq c 92)

-- what has a value, if it is UTF-8, has one that is UTF-8
pub unescaped_utf8 : (bytes : List ℕ) → IsUtf8 bytes → IsUtf8 (unescaped bytes)
unescaped_utf8 bytes utf8 = subst (λ (l : List ℕ). IsUtf8 (unescaped l)) utf8.1.1 (value_utf8 utf8.0 utf8.1.0)
