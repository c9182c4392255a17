-- What tokens make of the grammar: the parts whose marks have the tokens' signs, one part after another.
use Rattle.std.proofs.Common.{◌≡◌, List, [], ◌∷◌, ◌++◌, Option, Some, None, map, inr, refl, sym, ◌∙◌, ap, subst}
use Rattle.token_grammar.specs.Values.{◌then◌, IsAbsent, IsPerhaps}
use Rattle.doc_types.specs.declared.schema.Schema.{Schema}
use Rattle.query_marks.specs.declared.mark.Mark.{Mark}
use Rattle.query_marks.specs.declared.mark.Sign.{Sign}
use Rattle.query_marks.specs.declared.mark.Sign.TheVariants as signs
use Rattle.query_grammar.specs.Grammar.{Is}
use Rattle.query_write.specs.Written.{WrittenToken, Space}
use Rattle.query_write.specs.steps.TokenRun.{Standing, token_sign, token_after, IsRight, before_signs, signs_of, after_tokens, AreRight}

-- the signs of marks
abbrev pub signs_in : List Mark → List Sign
signs_in u = map (λ (m : Mark). m.sign) u

-- marks with exactly these signs are this part
abbrev pub IsBy : (List Mark → Type 0) → List Sign → Type 0
IsBy P signs = (u : List Mark) → signs_in u ≡ signs → P u

-- the marks of a row, cut
record Cut (u : List Mark) (a b : List Sign) : Type 0 where
  first : List Mark
  second : List Mark
  is : u ≡ first ++ second
  first_is : signs_in first ≡ a
  second_is : signs_in second ≡ b

cut : (u : List Mark) (a b : List Sign) → signs_in u ≡ a ++ b → Cut u a b
cut u [] b e = record { first = []; second = u; is = refl; first_is = refl; second_is = e }
cut [] (sign ∷ a) b e = cc
cut (m ∷ u) (sign ∷ a) b e =
    let same : m.sign ≡ sign = cc in
    let rest : signs_in u ≡ a ++ b = cc in
    let h : Cut u a b = cut u a b rest in
    record { first = m ∷ h.first; second = h.second; is = ap (λ v. m ∷ v) h.is; first_is = ap (λ s. s ∷ signs_in h.first) same ∙ ap (λ v. sign ∷ v) h.first_is; second_is = h.second_is }

by_then : {P Q : List Mark → Type 0} {a b : List Sign} → IsBy P a → IsBy Q b → IsBy (P then Q) (a ++ b)
by_then {P} {Q} {a} {b} first second u e =
    let h : Cut u a b = cut u a b e in
    (h.first, h.second, h.is, first h.first h.first_is, second h.second h.second_is)

by_one : (sign : Sign) → IsBy (Is sign) (sign ∷ [])
by_one sign [] e = cc
by_one sign (m ∷ []) e =
    let same : m.sign ≡ sign = cc in
    (m, refl, same)
by_one sign (m ∷ other ∷ u) e = cc

by_none : IsBy IsAbsent []
by_none [] e = refl
by_none (m ∷ u) e = cc

-- ---- rows of tokens

after_append : (s : Standing) (a b : List WrittenToken) → after_tokens s (a ++ b) ≡ after_tokens (after_tokens s a) b
after_append s [] b = refl
after_append s (token ∷ a) b = after_append (token_after s token) a b

before_append : (sign : Option Sign) (a b : List Sign) → before_signs sign (a ++ b) ≡ before_signs sign a ++ b
before_append None a b = refl
before_append (Some sign) a b = refl

signs_append : (s : Standing) (a b : List WrittenToken) → signs_of s (a ++ b) ≡ signs_of s a ++ signs_of (after_tokens s a) b
signs_append s [] b = refl
signs_append s (token ∷ a) b =
    ap (before_signs (token_sign s token)) (signs_append (token_after s token) a b)
    ∙ before_append (token_sign s token) (signs_of (token_after s token) a) (signs_of (after_tokens (token_after s token) a) b)

right_append : (schema : Schema) (s : Standing) (a b : List WrittenToken) → AreRight schema s a → AreRight schema (after_tokens s a) b → AreRight schema s (a ++ b)
right_append schema s [] b first second = second
right_append schema s (token ∷ a) b first second = (first.0, right_append schema (token_after s token) a b first.1 second)

-- Between two standings tokens are right, and marks with their signs are a part of the grammar.
pub record Makes (schema : Schema) (P : List Mark → Type 0) (s : Standing) (tokens : List WrittenToken) (t : Standing) : Type 0 where
  pub right : AreRight schema s tokens
  pub after : after_tokens s tokens ≡ t
  pub by : IsBy P (signs_of s tokens)

module _ {schema : Schema} where
  pub makes_then : {P Q : List Mark → Type 0} {s : Standing} {a : List WrittenToken} (r : Standing) {b : List WrittenToken} {t : Standing} → Makes schema P s a r → Makes schema Q r b t → Makes schema (P then Q) s (a ++ b) t
  makes_then {P} {Q} {s} {a} r {b} {t} first second = record {
    right = right_append schema s a b first.right (subst (λ (x : Standing). AreRight schema x b) (sym first.after) second.right);
    after = after_append s a b ∙ ap (λ (x : Standing). after_tokens x b) first.after ∙ second.after;
    by = subst (IsBy (P then Q)) (sym (signs_append s a b)) (by_then first.by (subst (λ (x : Standing). IsBy Q (signs_of x b)) (sym first.after) second.by));
  }

  pub makes_none : {s : Standing} → Makes schema IsAbsent s [] s
  makes_none {s} = record { right = tt; after = refl; by = by_none }

  -- a token with a sign, and then others
  pub makes_first : {P : List Mark → Type 0} {t : Standing} (s : Standing) (token : WrittenToken) (sign : Sign) (tokens : List WrittenToken) → IsRight schema s token → token_sign s token ≡ Some sign → Makes schema P (token_after s token) tokens t → Makes schema (Is sign then P) s (token ∷ tokens) t
  makes_first {P} {t} s token sign tokens right is h = record {
    right = (right, h.right);
    after = h.after;
    by = subst (λ x. IsBy (Is sign then P) (before_signs x (signs_of (token_after s token) tokens))) (sym is) (by_then (by_one sign) h.by);
  }

  pub makes_one : (s : Standing) (token : WrittenToken) (sign : Sign) → IsRight schema s token → token_sign s token ≡ Some sign → Makes schema (Is sign) s (token ∷ []) (token_after s token)
  makes_one s token sign right is = record {
    right = (right, tt);
    after = refl;
    by = subst (λ x. IsBy (Is sign) (before_signs x [])) (sym is) (by_one sign);
  }

  pub makes_space : {P : List Mark → Type 0} {s t : Standing} {tokens : List WrittenToken} → Makes schema P s tokens t → Makes schema P s (Space ∷ tokens) t
  makes_space h = record { right = (tt, h.right); after = h.after; by = h.by }

  -- the part in other words
  pub makes_as : {P Q : List Mark → Type 0} {s t : Standing} {tokens : List WrittenToken} → ((u : List Mark) → P u → Q u) → Makes schema P s tokens t → Makes schema Q s tokens t
  makes_as f h = record { right = h.right; after = h.after; by = λ u e. f u (h.by u e) }

  -- the tokens in other words
  pub makes_tokens : {P : List Mark → Type 0} {s t : Standing} {a : List WrittenToken} (b : List WrittenToken) → a ≡ b → Makes schema P s a t → Makes schema P s b t
  makes_tokens {P} {s} {t} b e h = subst (λ x. Makes schema P s x t) e h

-- an expression and the end after it are a query
pub query_by : {P : List Mark → Type 0} {a : List Sign} → IsBy P a → IsBy (IsPerhaps (Is signs.Relaxed) then (P then Is signs.End)) (a ++ signs.End ∷ [])
query_by {P} {a} h = by_then {a = []} (λ u e. inr (by_none u e)) (by_then h (by_one signs.End))
