-- Parts of a text whose tokens stand for one value only, where what follows can't go on with the part.
use Rattle.std.proofs.Common.{◌≡◌, List, [], ◌∷◌, ◌++◌, Bool, true, false, inl, inr, refl, sym, ◌∙◌, ap, subst, append_assoc}
use Rattle.std.specs.Prelude.{◌||◌, if◌then◌else◌}
use Rattle.std.proofs.lemmas.Bool.{cases_Bool}
use Rattle.token_grammar.specs.Alphabets.{Alphabet}
use Rattle.token_grammar.specs.Language.{Re, empty, one, seq, alt, many, Repeats, none, more, In, nullable}
use Rattle.token_grammar.specs.Values.{◌then◌, IsOne}
use Rattle.token_grammar.specs.Firsts.{fits_some, apart, all_in}
use Rattle.token_grammar.proofs.Bools.{or_left, or_right, or_first, or_second, clash}
use Rattle.token_grammar.proofs.Laws.{has_nullable}
use Rattle.token_grammar.proofs.Beginnings.{apart_no, fits_more}

-- the list begins with no token of these classes
abbrev pub StartsApart : {C T : Type 0} → Alphabet C T → List C → List T → Type 0
StartsApart Σ cs [] = Unit {0}
StartsApart Σ cs (t ∷ ts) = fits_some Σ cs t ≡ false

-- Two values of the part at the front of one list are the same and have the same tokens, where what follows begins with no
-- token with which the part may go on. The tokens are texts of a grammar.
pub record Once {C T A : Type 0} (Σ : Alphabet C T) (r : Re C) (goes_on : List C) (P : A → List T → Type 0) : Type 0 where
  pub text : (x : A) (u : List T) → P x u → In Σ r u
  pub once : (x y : A) (u v p q : List T) → P x u → P y v → u ++ p ≡ v ++ q → StartsApart Σ goes_on p → StartsApart Σ goes_on q → (x ≡ y) × (u ≡ v) × (p ≡ q)

-- the same of a part without a value
abbrev pub IsOnce : {C T : Type 0} → Alphabet C T → Re C → List C → (List T → Type 0) → Type 0
IsOnce Σ r goes_on P = Once {A = Unit {0}} Σ r goes_on (λ _. P)

-- the classes of the tokens with which the texts begin
abbrev pub firsts : {C : Type 0} → Re C → List C
firsts empty = []
firsts (one c) = c ∷ []
firsts (seq r s) = firsts r ++ (if nullable r then firsts s else [])
firsts (alt r s) = firsts r ++ firsts s
firsts (many r) = firsts r

-- the tokens with which two parts in a row may go on
abbrev pub goes : {C : Type 0} → List C → Re C → List C → List C
goes cs s ds = if nullable s then cs ++ ds else ds

or_assoc : (a b c : Bool) → (a || (b || c)) ≡ ((a || b) || c)
or_assoc true b c = refl
or_assoc false b c = refl

or_none : (b : Bool) → (b || false) ≡ b
or_none true = refl
or_none false = refl

pub in_halves : {T : Type 0} (u v a b c d p q : List T) → u ≡ a ++ b → v ≡ c ++ d → u ++ p ≡ v ++ q → a ++ (b ++ p) ≡ c ++ (d ++ q)
in_halves u v a b c d p q e f g = sym (append_assoc a b p) ∙ ap (λ w. w ++ p) (sym e) ∙ g ∙ ap (λ w. w ++ q) f ∙ append_assoc c d q

module _ {C T : Type 0} (Σ : Alphabet C T) where
  pub fits_both : (cs ds : List C) (t : T) → fits_some Σ (cs ++ ds) t ≡ (fits_some Σ cs t || fits_some Σ ds t)
  fits_both [] ds t = refl
  fits_both (c ∷ cs) ds t = ap (λ b. Σ.fits c t || b) (fits_both cs ds t) ∙ or_assoc (Σ.fits c t) (fits_some Σ cs t) (fits_some Σ ds t)

  first_repeated : (r : Re C) (t : T) (u w : List T) → w ≡ t ∷ u → Repeats (In Σ r) w → ((v : List T) → In Σ r (t ∷ v) → fits_some Σ (firsts r) t ≡ true) → fits_some Σ (firsts r) t ≡ true
  first_repeated r t u w is (none e) fit = cc
  first_repeated r t u w is (more [] b e first rest) fit = first_repeated r t u b (sym e ∙ is) rest fit
  first_repeated r t u w is (more (x ∷ a) b e first rest) fit =
      let same : x ≡ t = cc in
      fit a (subst (λ (y : T). In Σ r (y ∷ a)) same first)

  -- a token that begins a text is of one of the classes
  pub firsts_fit : (r : Re C) (t : T) (u : List T) → In Σ r (t ∷ u) → fits_some Σ (firsts r) t ≡ true
  unfolding In
  firsts_fit empty t u h = cc
  firsts_fit (one c) t u (x, e, f) =
      let same : x ≡ t = cc in
      or_left (Σ.fits c t) false (subst (λ (y : T). Σ.fits c y ≡ true) same f)
  firsts_fit (seq r s) t u ([], b, e, first, second) =
      fits_both (firsts r) (if nullable r then firsts s else []) t ∙ or_right (fits_some Σ (firsts r) t) (fits_some Σ (if nullable r then firsts s else []) t) (later (nullable r) (has_nullable Σ r first) (firsts_fit s t u (subst (λ v. In Σ s v) (sym e) second)))
    where
      later : (b : Bool) → b ≡ true → fits_some Σ (firsts s) t ≡ true → fits_some Σ (if b then firsts s else []) t ≡ true
      later true is f = f
      later false is f = cc
  firsts_fit (seq r s) t u (x ∷ a, b, e, first, second) =
      let same : x ≡ t = cc in
      fits_both (firsts r) (if nullable r then firsts s else []) t ∙ or_left (fits_some Σ (firsts r) t) (fits_some Σ (if nullable r then firsts s else []) t) (firsts_fit r t a (subst (λ (y : T). In Σ r (y ∷ a)) same first))
  firsts_fit (alt r s) t u (inl h) = fits_both (firsts r) (firsts s) t ∙ or_left (fits_some Σ (firsts r) t) (fits_some Σ (firsts s) t) (firsts_fit r t u h)
  firsts_fit (alt r s) t u (inr h) = fits_both (firsts r) (firsts s) t ∙ or_right (fits_some Σ (firsts r) t) (fits_some Σ (firsts s) t) (firsts_fit s t u h)
  firsts_fit (many r) t u h = first_repeated r t u (t ∷ u) refl h (firsts_fit r t)

  pub firsts_no : (r : Re C) (t : T) → fits_some Σ (firsts r) t ≡ false → (u : List T) → In Σ r (t ∷ u) → ⊥
  firsts_no r t e u h = clash (fits_some Σ (firsts r) t) (firsts_fit r t u h) e

  pub apart_left : (cs ds : List C) (p : List T) → StartsApart Σ (cs ++ ds) p → StartsApart Σ cs p
  apart_left cs ds [] h = tt
  apart_left cs ds (t ∷ p) h = or_first (fits_some Σ cs t) (fits_some Σ ds t) (sym (fits_both cs ds t) ∙ h)

  pub apart_right : (cs ds : List C) (p : List T) → StartsApart Σ (cs ++ ds) p → StartsApart Σ ds p
  apart_right cs ds [] h = tt
  apart_right cs ds (t ∷ p) h = or_second (fits_some Σ cs t) (fits_some Σ ds t) (sym (fits_both cs ds t) ∙ h)

  -- the tokens of a part that is apart Σ from classes, and what lies behind them
  pub follows : (cs : List C) (s : Re C) (b p : List T) → apart Σ cs s ≡ true → In Σ s b → (nullable s ≡ true → StartsApart Σ cs p) → StartsApart Σ cs (b ++ p)
  follows cs s [] p e i h = h (has_nullable Σ s i)
  follows cs s (t ∷ b) p e i h = elim (cases_Bool (fits_some Σ cs t)) [
    | inl fit ↦ absurd (apart_no Σ cs s t e fit b i)
    | inr other ↦ other
  ]

  -- a part isn't there where the tokens can't go on with it
  pub taken : (r : Re C) (ds : List C) (u p q : List T) → nullable r ≡ false → In Σ r u → u ++ p ≡ q → StartsApart Σ (firsts r ++ ds) q → ⊥
  taken r ds [] p q e i g h = clash (nullable r) (has_nullable Σ r i) e
  taken r ds (t ∷ u) p q e i g h = firsts_no r t (apart_left (firsts r) ds (t ∷ (u ++ p)) (subst (λ w. StartsApart Σ (firsts r ++ ds) w) (sym g) h)) u i

  fits_fewer : (cs ds : List C) (t : T) → all_in Σ cs ds ≡ true → fits_some Σ ds t ≡ false → fits_some Σ cs t ≡ false
  fits_fewer cs ds t e f = elim (cases_Bool (fits_some Σ cs t)) [
    | inl fit ↦ absurd (clash (fits_some Σ ds t) (fits_more Σ cs ds t e fit) f)
    | inr other ↦ other
  ]

  fewer : (cs ds : List C) (p : List T) → all_in Σ cs ds ≡ true → StartsApart Σ ds p → StartsApart Σ cs p
  fewer cs ds [] e h = tt
  fewer cs ds (t ∷ p) e h = fits_fewer cs ds t e h

  -- a token that tells its value
  pub once_one : {A : Type 0} (c : C) (P : A → T → Type 0) → ((x : A) (t : T) → P x t → Σ.fits c t ≡ true) → ((x y : A) (t : T) → P x t → P y t → x ≡ y) → Once Σ (one c) [] (λ x. IsOne (P x))
  unfolding In
  once_one {A} c P fit same = record { text = λ x u (t, e, h). (t, e, fit x t h); once = both }
    where
      both : (x y : A) (u v p q : List T) → IsOne (P x) u → IsOne (P y) v → u ++ p ≡ v ++ q → StartsApart Σ [] p → StartsApart Σ [] q → (x ≡ y) × (u ≡ v) × (p ≡ q)
      both x y u v p q (t, e, h) (s, f, k) g _ _ =
          let all : (t ∷ p) ≡ (s ∷ q) = ap (λ w. w ++ p) (sym e) ∙ g ∙ ap (λ w. w ++ q) f in
          let token : t ≡ s = cc in
          let rest : p ≡ q = cc in
          (same x y s (subst (λ z. P x z) token h) k, e ∙ ap (λ (z : T). z ∷ []) token ∙ sym f, rest)

  goes_second : (cs : List C) (s : Re C) (ds : List C) (p : List T) → StartsApart Σ (goes cs s ds) p → StartsApart Σ ds p
  goes_second cs s ds p h = by (nullable s) h
    where
      by : (b : Bool) → StartsApart Σ (if b then cs ++ ds else ds) p → StartsApart Σ ds p
      by true h = apart_right cs ds p h
      by false h = h

  goes_first : (cs : List C) (s : Re C) (ds : List C) (p : List T) → StartsApart Σ (goes cs s ds) p → nullable s ≡ true → StartsApart Σ cs p
  goes_first cs s ds p h e = apart_left cs ds p (subst (λ (b : Bool). StartsApart Σ (if b then cs ++ ds else ds) p) e h)

module _ {C T : Type 0} {Σ : Alphabet C T} where
  -- where less may follow
  pub once_wider : {A : Type 0} {r : Re C} {cs ds : List C} {P : A → List T → Type 0} → Once Σ r cs P → all_in Σ cs ds ≡ true → Once Σ r ds P
  once_wider {A} {r} {cs} {ds} {P} h e = record {
    text = h.text;
    once = λ x y u v p q i j g hp hq. h.once x y u v p q i j g (fewer Σ cs ds p e hp) (fewer Σ cs ds q e hq);
  }

  pub once_seq : {A B : Type 0} {r s : Re C} {cs ds : List C} {P : A → List T → Type 0} {Q : B → List T → Type 0} → Once Σ r cs P → Once Σ s ds Q → apart Σ cs s ≡ true → Once Σ (seq r s) (goes cs s ds) (λ (x : A × B). P x.0 then Q x.1)
  unfolding In
  once_seq {A} {B} {r} {s} {cs} {ds} {P} {Q} first second free = record {
    text = λ x u (a, b, e, i, j). (a, b, e, first.text x.0 a i, second.text x.1 b j);
    once = both;
  }
    where
      both : (x y : A × B) (u v p q : List T) → (P x.0 then Q x.1) u → (P y.0 then Q y.1) v → u ++ p ≡ v ++ q → StartsApart Σ (goes cs s ds) p → StartsApart Σ (goes cs s ds) q → (x ≡ y) × (u ≡ v) × (p ≡ q)
      both x y u v p q (a, b, e, i, j) (c, d, f, k, l) g hp hq =
          let all : a ++ (b ++ p) ≡ c ++ (d ++ q) = in_halves u v a b c d p q e f g in
          let (m, n, o) = first.once x.0 y.0 a c (b ++ p) (d ++ q) i k all
          (follows Σ cs s b p free (second.text x.1 b j) (goes_first Σ cs s ds p hp))
          (follows Σ cs s d q free (second.text y.1 d l) (goes_first Σ cs s ds q hq)) in
          let (m', n', o') = second.once x.1 y.1 b d p q j l o (goes_second Σ cs s ds p hp) (goes_second Σ cs s ds q hq) in
          (ap (λ (z : A). (z, x.1)) m ∙ ap (λ (z : B). (y.0, z)) m', e ∙ ap (λ w. w ++ b) n ∙ ap (λ w. c ++ w) n' ∙ sym f, o')

  -- other values for the same tokens
  pub once_as : {A B : Type 0} {r : Re C} {cs : List C} {P : A → List T → Type 0} {Q : B → List T → Type 0} → Once Σ r cs P → (value : A → B) → ((y : B) (u : List T) → Q y u → (x : A) × P x u × (value x ≡ y)) → Once Σ r cs Q
  once_as {A} {B} {r} {cs} {P} {Q} h value back = record {
    text = λ y u j. let (x, i, e) = back y u j in h.text x u i;
    once = both;
  }
    where
      both : (x y : B) (u v p q : List T) → Q x u → Q y v → u ++ p ≡ v ++ q → StartsApart Σ cs p → StartsApart Σ cs q → (x ≡ y) × (u ≡ v) × (p ≡ q)
      both x y u v p q i j g hp hq =
          let (x', i', e) = back x u i in
          let (y', j', f) = back y v j in
          let (m, n, o) = h.once x' y' u v p q i' j' g hp hq in
          (sym e ∙ ap value m ∙ f, n, o)

  -- after a part without a value
  pub once_after : {A : Type 0} {r s : Re C} {cs ds : List C} {S : List T → Type 0} {P : A → List T → Type 0} → IsOnce Σ r cs S → Once Σ s ds P → apart Σ cs s ≡ true → Once Σ (seq r s) (goes cs s ds) (λ x. S then P x)
  once_after first second free = once_as (once_seq first second free) (λ x. x.1) (λ y u i. ((tt, y), i, refl))

  -- before a part without a value
  pub once_before : {A : Type 0} {r s : Re C} {cs ds : List C} {P : A → List T → Type 0} {S : List T → Type 0} → Once Σ r cs P → IsOnce Σ s ds S → apart Σ cs s ≡ true → Once Σ (seq r s) (goes cs s ds) (λ x. P x then S)
  once_before first second free = once_as (once_seq first second free) (λ x. x.0) (λ y u i. ((y, tt), i, refl))
