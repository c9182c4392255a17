-- With which tokens the texts of a grammar begin.
use Rattle.std.proofs.Common.{◌≡◌, List, [], ◌∷◌, ◌++◌, Bool, true, false, inl, inr, refl, sym, ◌∙◌, subst, append-nil}
use Rattle.std.specs.Prelude.{◌&&◌, ◌||◌, not}
use Rattle.std.proofs.lemmas.Bool.{cases_Bool}
use Rattle.token_grammar.specs.Alphabets.{Alphabet}
use Rattle.token_grammar.specs.Language.{Re, empty, one, seq, alt, many, Repeats, none, more, In, nullable}
use Rattle.token_grammar.specs.Firsts.{fits_some, meets_some, is_in, all_in, IsFree, apart, may_follow}
use Rattle.token_grammar.specs.steps.Deciding.{begins, begun, excludes}
use Rattle.token_grammar.proofs.Bools.{and_first, and_second, both_true, or_cases, or_left, or_right, or_other, or_first, or_second, implied, not_true, clash}
use Rattle.token_grammar.proofs.Laws.{has_nullable, nullable_has, some_text}

module _ {C T : Type 0} (Σ : Alphabet C T) where
  -- a token of a class and of one of some others
  meets_one : (cs : List C) (d : C) (t : T) → fits_some Σ cs t ≡ true → Σ.fits d t ≡ true → meets_some Σ cs d ≡ true
  meets_one [] d t e f = cc
  meets_one (c ∷ cs) d t e f = elim (cases_Bool (Σ.fits c t)) [
    | inl here ↦ or_left (Σ.meets c d) (meets_some Σ cs d) (Σ.meeting c d t here f)
    | inr other ↦ or_right (Σ.meets c d) (meets_some Σ cs d) (meets_one cs d t (or_other (Σ.fits c t) (fits_some Σ cs t) other e) f)
  ]

  first_of_many : (r : Re C) (t : T) (u w : List T) → w ≡ (t ∷ u) → Repeats (In Σ r) w → ((v : List T) → In Σ r (t ∷ v) → ⊥) → ⊥
  first_of_many r t u w is (none e) never = cc
  first_of_many r t u w is (more [] b e first rest) never = first_of_many r t u b (sym e ∙ is) rest never
  first_of_many r t u w is (more (x ∷ a) b e first rest) never =
      let same : x ≡ t = cc in
      never a (subst (λ (y : T). In Σ r (y ∷ a)) same first)

  first_of_two : (r s : Re C) (t : T) (u a b : List T) → (t ∷ u) ≡ a ++ b → In Σ r a → In Σ s b → ((v : List T) → In Σ r (t ∷ v) → ⊥) → (nullable r ≡ true → (v : List T) → In Σ s (t ∷ v) → ⊥) → ⊥
  first_of_two r s t u [] b e first second left right = right (has_nullable Σ r first) u (subst (λ v. In Σ s v) (sym e) second)
  first_of_two r s t u (x ∷ a) b e first second left right =
      let same : x ≡ t = cc in
      left a (subst (λ (y : T). In Σ r (y ∷ a)) same first)

  pub apart_no : (cs : List C) (r : Re C) (t : T) → apart Σ cs r ≡ true → fits_some Σ cs t ≡ true → (u : List T) → In Σ r (t ∷ u) → ⊥
  unfolding In
  apart_no cs empty t e f u h = cc
  apart_no cs (one d) t e f u (x, is, g) =
      let same : x ≡ t = cc in
      clash (meets_some Σ cs d) (meets_one cs d t f (subst (λ (y : T). Σ.fits d y ≡ true) same g)) (not_true (meets_some Σ cs d) e)
  apart_no cs (seq r s) t e f u (a, b, is, first, second) =
      first_of_two r s t u a b is first second (apart_no cs r t (and_first (apart Σ cs r) (not (nullable r) || apart Σ cs s) e) f) (λ nil. apart_no cs s t (implied (nullable r) (apart Σ cs s) nil (and_second (apart Σ cs r) (not (nullable r) || apart Σ cs s) e)) f)
  apart_no cs (alt r s) t e f u (inl first) = apart_no cs r t (and_first (apart Σ cs r) (apart Σ cs s) e) f u first
  apart_no cs (alt r s) t e f u (inr second) = apart_no cs s t (and_second (apart Σ cs r) (apart Σ cs s) e) f u second
  apart_no cs (many r) t e f u h = first_of_many r t u (t ∷ u) refl h (apart_no cs r t e f)

  pub apart_free : (cs : List C) (r : Re C) → apart Σ cs r ≡ true → IsFree Σ cs r
  apart_free cs r e t u f h = apart_no cs r t e f u h

  pub apart_none : (r : Re C) → apart Σ [] r ≡ true
  apart_none empty = refl
  apart_none (one d) = refl
  apart_none (seq r s) = both_true (apart Σ [] r) (not (nullable r) || apart Σ [] s) (apart_none r) (or_right (not (nullable r)) (apart Σ [] s) (apart_none s))
  apart_none (alt r s) = both_true (apart Σ [] r) (apart Σ [] s) (apart_none r) (apart_none s)
  apart_none (many r) = apart_none r

  pub free_none : (r : Re C) → IsFree Σ [] r
  free_none r t u f h = cc

  -- a token of the class is of one of the classes
  pub fits_in : (c : C) (cs : List C) (t : T) → is_in Σ c cs ≡ true → Σ.fits c t ≡ true → fits_some Σ cs t ≡ true
  fits_in c [] t e f = cc
  fits_in c (d ∷ cs) t e f = elim (or_cases (Σ.within c d) (is_in Σ c cs) e) [
    | inl here ↦ or_left (Σ.fits d t) (fits_some Σ cs t) (Σ.inside c d t here f)
    | inr later ↦ or_right (Σ.fits d t) (fits_some Σ cs t) (fits_in c cs t later f)
  ]

  pub fits_more : (cs ds : List C) (t : T) → all_in Σ cs ds ≡ true → fits_some Σ cs t ≡ true → fits_some Σ ds t ≡ true
  fits_more [] ds t e f = cc
  fits_more (c ∷ cs) ds t e f = elim (or_cases (Σ.fits c t) (fits_some Σ cs t) f) [
    | inl here ↦ fits_in c ds t (and_first (is_in Σ c ds) (all_in Σ cs ds) e) here
    | inr later ↦ fits_more cs ds t (and_second (is_in Σ c ds) (all_in Σ cs ds) e) later
  ]

  pub free_fewer : (cs ds : List C) (r : Re C) → all_in Σ cs ds ≡ true → IsFree Σ ds r → IsFree Σ cs r
  free_fewer cs ds r e free t u f h = free t u (fits_more cs ds t e f) h

  -- what follows a part, and then something else
  pub free_rest : (cs : List C) (s : Re C) (ds : List C) (rest : Re C) → may_follow Σ cs s ds ≡ true → IsFree Σ ds rest → IsFree Σ cs (seq s rest)
  unfolding In
  free_rest cs s ds rest e free t u f (a, b, is, first, second) =
      first_of_two s rest t u a b is first second (λ v h. apart_no cs s t (and_first (apart Σ cs s) (not (nullable s) || all_in Σ cs ds) e) f v h)
      (λ nil v h. free t v (fits_more cs ds t (implied (nullable s) (all_in Σ cs ds) nil (and_second (apart Σ cs s) (not (nullable s) || all_in Σ cs ds) e)) f) h)

  -- what begins with a class alone isn't empty ..
  pub begun_filled : (c : C) (r : Re C) → begun Σ c r ≡ true → nullable r ≡ false
  begun_filled c empty e = cc
  begun_filled c (one d) e = refl
  begun_filled c (seq r s) e = first (nullable r) (nullable s) (begun_filled c r e)
    where
      first : (b d : Bool) → b ≡ false → (b && d) ≡ false
      first true d is = cc
      first false d is = refl
  begun_filled c (alt r s) e = both (nullable r) (nullable s) (begun_filled c r (and_first (begun Σ c r) (begun Σ c s) e)) (begun_filled c s (and_second (begun Σ c r) (begun Σ c s) e))
    where
      both : (b d : Bool) → b ≡ false → d ≡ false → (b || d) ≡ false
      both true d is other = cc
      both false d is other = other
  begun_filled c (many r) e = cc

  -- .. and each of its texts begins with a token of the class
  pub begun_fits : (c : C) (r : Re C) (t : T) (u : List T) → begun Σ c r ≡ true → In Σ r (t ∷ u) → Σ.fits c t ≡ true
  unfolding In
  begun_fits c empty t u e h = cc
  begun_fits c (one d) t u e (x, is, f) =
      let same : x ≡ t = cc in
      Σ.inside d c t e (subst (λ (y : T). Σ.fits d y ≡ true) same f)
  begun_fits c (seq r s) t u e ([], b, is, first, second) = absurd (clash (nullable r) (has_nullable Σ r first) (begun_filled c r e))
  begun_fits c (seq r s) t u e (x ∷ a, b, is, first, second) =
      let same : x ≡ t = cc in
      begun_fits c r t a e (subst (λ (y : T). In Σ r (y ∷ a)) same first)
  begun_fits c (alt r s) t u e (inl h) = begun_fits c r t u (and_first (begun Σ c r) (begun Σ c s) e) h
  begun_fits c (alt r s) t u e (inr h) = begun_fits c s t u (and_second (begun Σ c r) (begun Σ c s) e) h
  begun_fits c (many r) t u e h = cc

  -- The token begins no text of the part, and the part isn't empty.
  abbrev pub Misses : Re C → T → Type 0
  Misses r t = (nullable r ≡ false) × ((u : List T) → In Σ r (t ∷ u) → ⊥)

  pub begun_misses : (c : C) (r : Re C) (t : T) → begun Σ c r ≡ true → Σ.fits c t ≡ false → Misses r t
  begun_misses c r t e f = (begun_filled c r e, λ u h. clash (Σ.fits c t) (begun_fits c r t u e h) f)

  pub excluded_misses : (c : C) (r : Re C) (t : T) → excludes Σ c r ≡ true → Σ.fits c t ≡ true → Misses r t
  excluded_misses c r t e f =
      (not_true (nullable r) (and_first (not (nullable r)) (apart Σ (c ∷ []) r) e), λ u h. apart_no (c ∷ []) r t (and_second (not (nullable r)) (apart Σ (c ∷ []) r) e) (or_left (Σ.fits c t) false f) u h)

  -- no text of a part and something else begins with a token that the part misses
  pub missed : (s k : Re C) (t : T) → Misses s t → (v : List T) → In Σ (seq s k) (t ∷ v) → ⊥
  unfolding In
  missed s k t m v (a, b, is, first, second) = first_of_two s k t v a b is first second (λ w h. m.1 w h) (λ nil w h. clash (nullable s) nil m.0)

  -- Where a grammar begins with a token, some text does. The test says it of no other class.
  module _ (g : C → Bool) (t : T) (means : (c : C) → g c ≡ true → Σ.fits c t ≡ true) where
    pub begins_some : (r : Re C) → begins g r ≡ true → (w : List T) × In Σ r (t ∷ w)
    unfolding In
    begins_some empty e = cc
    begins_some (one d) e = ([], (t, refl, means d e))
    begins_some (seq r s) e = elim (or_cases (begins g r) (nullable r && begins g s) e) [
      | inl here ↦ let (w, h) = begins_some r here in let (v, k) = some_text Σ s in (w ++ v, (t ∷ w, v, refl, h, k))
      | inr other ↦
          let (w, h) = begins_some s (and_second (nullable r) (begins g s) other) in
          (w, ([], t ∷ w, refl, nullable_has Σ r (and_first (nullable r) (begins g s) other), h))
    ]
    begins_some (alt r s) e = elim (or_cases (begins g r) (begins g s) e) [
      | inl here ↦ let (w, h) = begins_some r here in (w, inl h)
      | inr other ↦ let (w, h) = begins_some s other in (w, inr h)
    ]
    begins_some (many r) e = let (w, h) = begins_some r e in (w, more (t ∷ w) [] (sym (append-nil (t ∷ w))) h (none refl))

    -- a text of a part that begins with a token, and then any text
    pub begins_both : (r k : Re C) → begins g r ≡ true → (w : List T) × In Σ (seq r k) (t ∷ w)
    unfolding In
    begins_both r k e = let (w, h) = begins_some r e in let (v, i) = some_text Σ k in (w ++ v, (t ∷ w, v, refl, h, i))

  -- Where a grammar doesn't begin with a token, no text does. The test says of each class of the token that it is one.
  module _ (g : C → Bool) (t : T) (says : (c : C) → Σ.fits c t ≡ true → g c ≡ true) where
    pub begins_no : (r : Re C) → begins g r ≡ false → (u : List T) → In Σ r (t ∷ u) → ⊥
    unfolding In
    begins_no empty e u h = cc
    begins_no (one d) e u (x, is, f) =
        let same : x ≡ t = cc in
        clash (g d) (says d (subst (λ (y : T). Σ.fits d y ≡ true) same f)) e
    begins_no (seq r s) e u (a, b, is, first, second) =
        first_of_two r s t u a b is first second (begins_no r (or_first (begins g r) (nullable r && begins g s) e)) (λ nil. begins_no s (later (nullable r) (begins g s) nil (or_second (begins g r) (nullable r && begins g s) e)))
      where
        later : (b c : Bool) → b ≡ true → (b && c) ≡ false → c ≡ false
        later true c is e = e
        later false c is e = cc
    begins_no (alt r s) e u (inl h) = begins_no r (or_first (begins g r) (begins g s) e) u h
    begins_no (alt r s) e u (inr h) = begins_no s (or_second (begins g r) (begins g s) e) u h
    begins_no (many r) e u h = first_of_many r t u (t ∷ u) refl h (begins_no r e)
