-- Signs of a text.
use Rattle.std.proofs.Common.{◌≡◌, ℕ, ◌+◌, ◌-◌, ◌<◌, true, false, List, [], ◌∷◌, ◌++◌, Option, Some, None, get_or, slice_range, length, refl, ap, ◌∙◌, subst, arith, ⊎_elim, inl, inr}
use Rattle.std.specs.Prelude.{◌⊎◌, is_some}
use Rattle.std.proofs.lemmas.Bool.{cases_order, both_ways, cond-false, ne_eqb}
use Rattle.ql_lex.specs.declared.token.TokenKind.{TokenKind}
use Rattle.ql_lex.specs.declared.token.TokenKind.TheVariants.{Sign}
use Rattle.ql_lex.specs.Shapes.{sign_of, sign_of_one, sign_of_two, IsNamed}
use Rattle.ql_lex.specs.Tokens.{IsToken, IsBad}
use Rattle.ql_lex.specs.steps.Reading.{IsOther}
use Rattle.ql_lex.proofs.Heads.{head}
use Rattle.ql_lex.proofs.PartHeads.{kind_head, same_kind, two_second}
use Rattle.ql_lex.proofs.BadBytes.{no_part, no_fault}
use Rattle.ql_lex.proofs.Slices.{slice_length, slice_byte, slice_more, slice_none, byte_within}

none_of : {S : Type 0} (o : Option S) → is_some o ≡ false → o ≡ None
none_of None is = refl
none_of (Some x) is = absurd (cc)

-- the bytes of a sign are one or two
one_or_two : (bytes : List ℕ) → is_some (sign_of bytes) ≡ true →
    ((length bytes ≡ 1) × (is_some (sign_of_one (get_or bytes 0 0)) ≡ true)) ⊎ ((length bytes ≡ 2) × (is_some (sign_of_two (get_or bytes 0 0) (get_or bytes 1 0)) ≡ true))
one_or_two [] is = absurd (cc)
one_or_two (a ∷ []) is = inl (refl, is)
one_or_two (a ∷ b ∷ []) is = inr (refl, is)
one_or_two (a ∷ b ∷ c ∷ bytes) is = absurd (cc)

-- no sign has more than two bytes
no_third : (bytes : List ℕ) → 2 < length bytes → sign_of bytes ≡ None
no_third [] more = absurd (omega arith)
no_third (a ∷ []) more = absurd (omega arith)
no_third (a ∷ b ∷ []) more = absurd (omega arith)
no_third (a ∷ b ∷ c ∷ bytes) more = refl

slice_one : (text : List ℕ) (at : ℕ) → at < length text → slice_range text at (at + 1) ≡ get_or text at 0 ∷ []
slice_one text at within = slice_more text at at (omega arith) within ∙ ap (λ (l : List ℕ). l ++ get_or text at 0 ∷ []) (slice_none text at)

slice_two : (text : List ℕ) (at : ℕ) → at + 1 < length text → slice_range text at (at + 2) ≡ get_or text at 0 ∷ get_or text (at + 1) 0 ∷ []
slice_two text at within =
    let e : at + 2 ≡ (at + 1) + 1 = omega arith in
    ap (λ n. slice_range text at n) e ∙ slice_more text at (at + 1) (omega arith) within ∙ ap (λ (l : List ℕ). l ++ get_or text (at + 1) 0 ∷ []) (slice_one text at (omega arith))

-- a sign of two bytes
pub two_token : (text : List ℕ) (at : ℕ) → at < length text → is_some (sign_of_two (get_or text at 0) (get_or text (at + 1) 0)) ≡ true → IsToken Sign text at (at + 2)
two_token text at within is =
    let more : at + 1 < length text = byte_within text (at + 1) (two_second (get_or text at 0) (get_or text (at + 1) 0) is) in
    record {
      within = omega arith;
      lexeme = ap (λ (l : List ℕ). is_some (sign_of l)) (slice_two text at more) ∙ is;
      whole = λ further behind inside. no_third (slice_range text at further) (omega (arith, slice_length text at further inside));
    }

-- a sign of one byte, where it doesn't begin one of two
pub one_token : (text : List ℕ) (at : ℕ) → at < length text → is_some (sign_of_two (get_or text at 0) (get_or text (at + 1) 0)) ≡ false → is_some (sign_of_one (get_or text at 0)) ≡ true → IsToken Sign text at (at + 1)
one_token text at within no_two is = record {
  within = omega arith;
  lexeme = ap (λ (l : List ℕ). is_some (sign_of l)) (slice_one text at within) ∙ is;
  whole = λ further behind inside.
      ⊎_elim (λ (here : further ≡ at + 2). ap (λ n. sign_of (slice_range text at n)) here ∙ ap sign_of (slice_two text at (omega arith)) ∙ none_of (sign_of_two (get_or text at 0) (get_or text (at + 1) 0)) no_two)
      (⊎_elim (λ (below : further < at + 2). absurd (omega arith)) (λ (above : at + 2 < further). no_third (slice_range text at further) (omega (arith, slice_length text at further inside))))
      (cases_order further (at + 2));
}

-- the head of a byte that begins no blank, no comment and no token but a sign
other_head : (b : ℕ) → IsOther b → head b ≡ 0
other_head b is =
    cond-false _ _ _ is.blank ∙ cond-false _ _ _ is.letter ∙ cond-false _ _ _ is.digit ∙ cond-false _ _ _ is.quote
    ∙ cond-false _ _ _ (ne_eqb b 96 is.backquote) ∙ cond-false _ _ _ (ne_eqb b 64 is.at) ∙ cond-false _ _ _ (ne_eqb b 47 is.slash)

-- such a byte that begins no sign either
pub other_bad : (text : List ℕ) (at : ℕ) → at < length text → IsOther (get_or text at 0) → is_some (sign_of_two (get_or text at 0) (get_or text (at + 1) 0)) ≡ false → is_some (sign_of_one (get_or text at 0)) ≡ false → IsBad text at
other_bad text at within other no_two no_one = record {
  within = within;
  no_part = no_part text at 0 (other_head _ other) (λ e. omega arith) (λ e to is. omega arith) (λ kind to e is. no_sign to (subst (λ k. IsToken k text at to) (same_kind kind Sign e) is));
  no_other = no_fault text at 0 (other_head _ other) (λ e. omega arith) (λ e. omega arith) (λ e is. omega arith) (λ e is. omega arith) (λ kind to w e is. no_name kind to e is);
}
  where
    no_sign : (to : ℕ) → IsToken Sign text at to → ⊥
    no_sign to is =
        let size : length (slice_range text at to) ≡ to - at = slice_length text at to is.within in
        ⊎_elim (λ one. let p : at + 0 < to = omega (arith, one.0) in let e : at + 0 ≡ at = omega arith in
        both_ways _ no_one (subst (λ b. is_some (sign_of_one b) ≡ true) (slice_byte text at to 0 p ∙ ap (λ n. get_or text n 0) e) one.1))
        (λ two. let p : at + 0 < to = omega (arith, two.0) in let e : at + 0 ≡ at = omega arith in let q : at + 1 < to = omega (arith, two.0) in
        both_ways _ no_two (subst (λ b. is_some (sign_of_two b (get_or text (at + 1) 0)) ≡ true) (slice_byte text at to 0 p ∙ ap (λ n. get_or text n 0) e)
        (subst (λ b. is_some (sign_of_two (get_or (slice_range text at to) 0 0) b) ≡ true) (slice_byte text at to 1 q) two.1)))
        (one_or_two (slice_range text at to) is.lexeme)

    no_name : (kind : TokenKind) (to : ℕ) → kind_head kind ≡ 0 → IsNamed kind (slice_range text at to) → ⊥
    no_name kind to e is = let sign : IsNamed Sign (slice_range text at to) = subst (λ k. IsNamed k (slice_range text at to)) (same_kind kind Sign e) is in sign
