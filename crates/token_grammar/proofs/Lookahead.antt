-- What readers make of a choice by two tokens.
use Rattle.std.proofs.Common.{◌≡◌, ℕ, List, [], ◌∷◌, Bool, true, false, Option, Some, None, inl, inr, refl, sym, ◌∙◌, ap, subst}
use Rattle.std.specs.Prelude.{◌&&◌, ◌||◌, not}
use Rattle.srch_base.specs.declared.faults.Or.{Or}
use Rattle.token_grammar.specs.Alphabets.{Alphabet}
use Rattle.token_grammar.specs.Language.{Re, seq, alt, In, nullable, derivative, after, next, verdict}
use Rattle.token_grammar.specs.Firsts.{is_in, IsFree, apart}
use Rattle.token_grammar.specs.steps.Deciding.{begins, begun, clear, begun_after, drops_by_two, drops_by_other}
use Rattle.token_grammar.specs.Reading.{TakesPart, FailsPart, IsNextOf, second_fits, IsFollowed, followed, unlike, unfollowed}
use Rattle.token_grammar.specs.steps.Progress.{IsLeading, leads, other, led}
use Rattle.token_grammar.proofs.Bools.{and_first, and_second, and_all, or_left, implied, not_true, clash}
use Rattle.token_grammar.proofs.Laws.{InAny, has_nullable, derivative_from, after_from, after_to}
use Rattle.token_grammar.proofs.Beginnings.{apart_no, fits_in, begun_filled, begun_fits, begins_both}
use Rattle.token_grammar.proofs.Verdicts.{verdict_begun}
use Rattle.token_grammar.proofs.Rows.{takes_by, fails_by, unlike_no}
use Rattle.token_grammar.proofs.Choices.{takes_else, fails_else}

module _ {C T : Type 0} (Σ : Alphabet C T) where
  goes_on_with : (r : Re C) (t : T) (w : List T) → In Σ r (t ∷ w) → (s : Re C) × (after Σ t r ≡ Some s)
  goes_on_with r t w h = go (after Σ t r) refl (after_from Σ r t w h)
    where
      go : (o : Option (Re C)) → after Σ t r ≡ o → InAny Σ o w → (s : Re C) × (after Σ t r ≡ Some s)
      go None is i = absurd i
      go (Some s) is i = (s, is)

  into : (r s : Re C) (t : T) → after Σ t r ≡ Some s → (w : List T) → In Σ r (t ∷ w) → In Σ s w
  into r s t is w h = subst (λ o. InAny Σ o w) is (after_from Σ r t w h)

  back_to : (r s : Re C) (t : T) → after Σ t r ≡ Some s → (w : List T) → In Σ s w → In Σ r (t ∷ w)
  back_to r s t is w h = after_to Σ r t w (subst (λ o. InAny Σ o w) (sym is) h)

  -- Where both grammars go on with the first token, only the texts that begin with the first two count.
  verdict_two : (t : T) (us : List T) (r s : Re C) (v w : List T) → In Σ r (t ∷ v) → In Σ s (t ∷ w) → ((u : T) (x : List T) → (y : List T) → us ≡ u ∷ y → In Σ r (t ∷ u ∷ x) → In Σ s (t ∷ u ∷ x)) → ((u : T) (x : List T) → (y : List T) → us ≡ u ∷ y → In Σ s (t ∷ u ∷ x) → In Σ r (t ∷ u ∷ x)) → verdict Σ r (t ∷ us) ≡ verdict Σ s (t ∷ us)
  unfolding verdict
  verdict_two t us r s v w first second there back =
      let (p, is) = goes_on_with r t v first in
      let (q, is') = goes_on_with s t w second in
      ap (λ o. next (t ∷ us) o (λ x. verdict Σ x us)) is ∙ go us refl p q is is' ∙ ap (λ o. next (t ∷ us) o (λ x. verdict Σ x us)) (sym is')
    where
      go : (ys : List T) → us ≡ ys → (p q : Re C) → after Σ t r ≡ Some p → after Σ t s ≡ Some q → verdict Σ p us ≡ verdict Σ q us
      go [] e p q is is' = ap (verdict Σ p) e ∙ ap (verdict Σ q) (sym e)
      go (u ∷ y) e p q is is' =
          ap (verdict Σ p) e ∙ verdict_begun Σ u y p q (λ x h. into s q t is' (u ∷ x) (there u x y e (back_to r p t is (u ∷ x) h))) (λ x h. into r p t is (u ∷ x) (back u x y e (back_to s q t is' (u ∷ x) h))) ∙ ap (verdict Σ q) (sym e)

  -- what is clear of two tokens doesn't go on with them
  pub clear_no : (c d : C) (r k : Re C) (cs : List C) (t u : T) (w : List T) → nullable r ≡ false → Σ.fits c t ≡ true → Σ.fits d u ≡ true → clear Σ d cs (derivative (Σ.meets c) r) ≡ true → IsFree Σ cs k → In Σ (seq r k) (t ∷ u ∷ w) → ⊥
  unfolding In
  clear_no c d r k cs t u w filled fit fit' e free ([], b, is, first, second) = clash (nullable r) (has_nullable Σ r first) filled
  clear_no c d r k cs t u w filled fit fit' e free (x ∷ [], b, is, first, second) =
      let same : x ≡ t = cc in
      let rest : b ≡ u ∷ w = cc in
      go (derivative (Σ.meets c) r) e (derivative_from Σ (Σ.meets c) t (λ f g. Σ.meeting c f t fit g) r [] (subst (λ (y : T). In Σ r (y ∷ [])) same first)) (subst (λ v. In Σ k v) rest second)
    where
      go : (o : Option (Re C)) → clear Σ d cs o ≡ true → InAny Σ o [] → In Σ k (u ∷ w) → ⊥
      go None e i h = absurd i
      go (Some s) e i h =
          free u w (fits_in Σ d cs u (implied (nullable s) (is_in Σ d cs) (has_nullable Σ s i) (and_second (apart Σ (d ∷ []) s) (not (nullable s) || is_in Σ d cs) e)) fit') h
  clear_no c d r k cs t u w filled fit fit' e free (x ∷ y ∷ a, b, is, first, second) =
      let same : x ≡ t = cc in
      let same' : y ≡ u = cc in
      go (derivative (Σ.meets c) r) e (derivative_from Σ (Σ.meets c) t (λ f g. Σ.meeting c f t fit g) r (u ∷ a) (subst (λ (z : T). In Σ r (t ∷ z ∷ a)) same' (subst (λ (z : T). In Σ r (z ∷ y ∷ a)) same first)))
    where
      go : (o : Option (Re C)) → clear Σ d cs o ≡ true → InAny Σ o (u ∷ a) → ⊥
      go None e i = absurd i
      go (Some s) e i = apart_no Σ (d ∷ []) s u (and_first (apart Σ (d ∷ []) s) (not (nullable s) || is_in Σ d cs) e) (or_left (Σ.fits d u) false fit') a i

  -- nor does what goes on with another class alone
  pub begun_no : (c d : C) (r k : Re C) (t u : T) (w : List T) → nullable r ≡ false → Σ.fits c t ≡ true → begun_after Σ d (derivative (Σ.meets c) r) ≡ true → Σ.fits d u ≡ false → In Σ (seq r k) (t ∷ u ∷ w) → ⊥
  unfolding In
  begun_no c d r k t u w filled fit e f ([], b, is, first, second) = clash (nullable r) (has_nullable Σ r first) filled
  begun_no c d r k t u w filled fit e f (x ∷ [], b, is, first, second) =
      let same : x ≡ t = cc in
      go (derivative (Σ.meets c) r) e (derivative_from Σ (Σ.meets c) t (λ g h. Σ.meeting c g t fit h) r [] (subst (λ (y : T). In Σ r (y ∷ [])) same first))
    where
      go : (o : Option (Re C)) → begun_after Σ d o ≡ true → InAny Σ o [] → ⊥
      go None e i = absurd i
      go (Some s) e i = clash (nullable s) (has_nullable Σ s i) (begun_filled Σ d s e)
  begun_no c d r k t u w filled fit e f (x ∷ y ∷ a, b, is, first, second) =
      let same : x ≡ t = cc in
      let same' : y ≡ u = cc in
      go (derivative (Σ.meets c) r) e (derivative_from Σ (Σ.meets c) t (λ g h. Σ.meeting c g t fit h) r (u ∷ a) (subst (λ (z : T). In Σ r (t ∷ z ∷ a)) same' (subst (λ (z : T). In Σ r (z ∷ y ∷ a)) same first)))
    where
      go : (o : Option (Re C)) → begun_after Σ d o ≡ true → InAny Σ o (u ∷ a) → ⊥
      go None e i = absurd i
      go (Some s) e i = clash (Σ.fits d u) (begun_fits Σ d s u a e i) f

  -- A choice where both parts go on with the first token, and the one that is dropped doesn't go on with the second.
  drop_right : (c : C) (r s k : Re C) (t : T) (us : List T) → Σ.fits c t ≡ true → begins (Σ.within c) r ≡ true → ((u : T) (x y : List T) → us ≡ u ∷ y → In Σ (seq s k) (t ∷ u ∷ x) → ⊥) → verdict Σ (seq (alt r s) k) (t ∷ us) ≡ verdict Σ (seq r k) (t ∷ us)
  unfolding In
  drop_right c r s k t us fit e never =
      let (w, h) = begins_both Σ (Σ.within c) t (λ d i. Σ.inside c d t i fit) r k e in
      verdict_two t us (seq (alt r s) k) (seq r k) w w (widen w h) h (λ u x y is. there u x y is) (λ u x y is. widen (u ∷ x))
    where
      widen : (w : List T) → In Σ (seq r k) (t ∷ w) → In Σ (seq (alt r s) k) (t ∷ w)
      widen w (a, b, is, first, second) = (a, b, is, inl first, second)

      there : (u : T) (x y : List T) → us ≡ u ∷ y → In Σ (seq (alt r s) k) (t ∷ u ∷ x) → In Σ (seq r k) (t ∷ u ∷ x)
      there u x y is (a, b, is', inl first, second) = (a, b, is', first, second)
      there u x y is (a, b, is', inr first, second) = absurd (never u x y is (a, b, is', first, second))

  drop_left : (c : C) (r s k : Re C) (t : T) (us : List T) → Σ.fits c t ≡ true → begins (Σ.within c) s ≡ true → ((u : T) (x y : List T) → us ≡ u ∷ y → In Σ (seq r k) (t ∷ u ∷ x) → ⊥) → verdict Σ (seq (alt r s) k) (t ∷ us) ≡ verdict Σ (seq s k) (t ∷ us)
  unfolding In
  drop_left c r s k t us fit e never =
      let (w, h) = begins_both Σ (Σ.within c) t (λ d i. Σ.inside c d t i fit) s k e in
      verdict_two t us (seq (alt r s) k) (seq s k) w w (widen w h) h (λ u x y is. there u x y is) (λ u x y is. widen (u ∷ x))
    where
      widen : (w : List T) → In Σ (seq s k) (t ∷ w) → In Σ (seq (alt r s) k) (t ∷ w)
      widen w (a, b, is, first, second) = (a, b, is, inr first, second)

      there : (u : T) (x y : List T) → us ≡ u ∷ y → In Σ (seq (alt r s) k) (t ∷ u ∷ x) → In Σ (seq s k) (t ∷ u ∷ x)
      there u x y is (a, b, is', inl first, second) = absurd (never u x y is (a, b, is', first, second))
      there u x y is (a, b, is', inr first, second) = (a, b, is', first, second)

  second_is : (d : C) (t u : T) (us y : List T) → us ≡ u ∷ y → second_fits Σ d (t ∷ us) ≡ Σ.fits d u
  second_is d t u us y e = ap (λ v. second_fits Σ d (t ∷ v)) e

  -- what the two tokens say, of those before the reader
  left_two : (r s k : Re C) (cs : List C) (c d : C) (before : List T) → IsNextOf Σ c before true → second_fits Σ d before ≡ true → drops_by_two Σ c d cs s r ≡ true → IsFree Σ cs k → verdict Σ (seq (alt r s) k) before ≡ verdict Σ (seq r k) before
  left_two r s k cs c d before n second e free =
      let p = and_all (not (nullable s)) (clear Σ d cs (derivative (Σ.meets c) s)) (begins (Σ.within c) r) e in
      let second' : second_fits Σ d (n.next ∷ n.rest) ≡ true = ap (second_fits Σ d) (sym n.is) ∙ second in
      subst (λ u. verdict Σ (seq (alt r s) k) u ≡ verdict Σ (seq r k) u) (sym n.is)
      (drop_right c r s k n.next n.rest n.fits p.2
      (λ u x y same. clear_no c d s k cs n.next u x (not_true (nullable s) p.0) n.fits (sym (second_is d n.next u n.rest y same) ∙ second') p.1 free))

  right_two : (r s k : Re C) (cs : List C) (c d : C) (before : List T) → IsNextOf Σ c before true → second_fits Σ d before ≡ true → drops_by_two Σ c d cs r s ≡ true → IsFree Σ cs k → verdict Σ (seq (alt r s) k) before ≡ verdict Σ (seq s k) before
  right_two r s k cs c d before n second e free =
      let p = and_all (not (nullable r)) (clear Σ d cs (derivative (Σ.meets c) r)) (begins (Σ.within c) s) e in
      let second' : second_fits Σ d (n.next ∷ n.rest) ≡ true = ap (second_fits Σ d) (sym n.is) ∙ second in
      subst (λ u. verdict Σ (seq (alt r s) k) u ≡ verdict Σ (seq s k) u) (sym n.is)
      (drop_left c r s k n.next n.rest n.fits p.2
      (λ u x y same. clear_no c d r k cs n.next u x (not_true (nullable r) p.0) n.fits (sym (second_is d n.next u n.rest y same) ∙ second') p.1 free))

  left_other : (r s k : Re C) (c d : C) (before : List T) → IsNextOf Σ c before true → second_fits Σ d before ≡ false → drops_by_other Σ c d s r ≡ true → verdict Σ (seq (alt r s) k) before ≡ verdict Σ (seq r k) before
  left_other r s k c d before n second e =
      let p = and_all (not (nullable s)) (begun_after Σ d (derivative (Σ.meets c) s)) (begins (Σ.within c) r) e in
      let second' : second_fits Σ d (n.next ∷ n.rest) ≡ false = ap (second_fits Σ d) (sym n.is) ∙ second in
      subst (λ u. verdict Σ (seq (alt r s) k) u ≡ verdict Σ (seq r k) u) (sym n.is)
      (drop_right c r s k n.next n.rest n.fits p.2
      (λ u x y same. begun_no c d s k n.next u x (not_true (nullable s) p.0) n.fits p.1 (sym (second_is d n.next u n.rest y same) ∙ second')))

  right_other : (r s k : Re C) (c d : C) (before : List T) → IsNextOf Σ c before true → second_fits Σ d before ≡ false → drops_by_other Σ c d r s ≡ true → verdict Σ (seq (alt r s) k) before ≡ verdict Σ (seq s k) before
  right_other r s k c d before n second e =
      let p = and_all (not (nullable r)) (begun_after Σ d (derivative (Σ.meets c) r)) (begins (Σ.within c) s) e in
      let second' : second_fits Σ d (n.next ∷ n.rest) ≡ false = ap (second_fits Σ d) (sym n.is) ∙ second in
      subst (λ u. verdict Σ (seq (alt r s) k) u ≡ verdict Σ (seq s k) u) (sym n.is)
      (drop_left c r s k n.next n.rest n.fits p.2
      (λ u x y same. begun_no c d r k n.next u x (not_true (nullable r) p.0) n.fits p.1 (sym (second_is d n.next u n.rest y same) ∙ second')))

module _ {C T : Type 0} {Σ : Alphabet C T} where
  -- A part that begins with two tokens, and others that may begin with the first: the two are next, ..
  pub takes_followed : {r s : Re C} {c d : C} {cs : List C} {P : List T → Type 0} {before now : List T} → IsFollowed Σ c d before true → drops_by_two Σ c d cs s r ≡ true → TakesPart Σ r cs P before now → TakesPart Σ (alt r s) cs P before now
  takes_followed {r} {s} {c} {d} {cs} {P} {before} (followed n m) e h = takes_by (λ rest free. left_two Σ r s rest cs c d before n m e free) h

  pub fails_followed : {r s : Re C} {c d : C} {cs : List C} {before : List T} {e : Or ℕ} → IsFollowed Σ c d before true → drops_by_two Σ c d cs s r ≡ true → FailsPart Σ r cs before e → FailsPart Σ (alt r s) cs before e
  fails_followed {r} {s} {c} {d} {cs} {before} (followed n m) e h = fails_by (λ rest free. left_two Σ r s rest cs c d before n m e free) h

  -- .. or they aren't
  pub takes_unfollowed : {r s : Re C} {c d : C} {cs : List C} {P : List T → Type 0} {before now : List T} → IsFollowed Σ c d before false → (begun Σ c r && drops_by_other Σ c d r s) ≡ true → TakesPart Σ s cs P before now → TakesPart Σ (alt r s) cs P before now
  takes_unfollowed {r} {s} {c} {d} (unlike n) e h = takes_else n (and_first (begun Σ c r) (drops_by_other Σ c d r s) e) h
  takes_unfollowed {r} {s} {c} {d} {cs} {P} {before} (unfollowed n m) e h = takes_by (λ rest free. right_other Σ r s rest c d before n m (and_second (begun Σ c r) (drops_by_other Σ c d r s) e)) h

  pub fails_unfollowed : {r s : Re C} {c d : C} {cs : List C} {before : List T} {e : Or ℕ} → IsFollowed Σ c d before false → (begun Σ c r && drops_by_other Σ c d r s) ≡ true → FailsPart Σ s cs before e → FailsPart Σ (alt r s) cs before e
  fails_unfollowed {r} {s} {c} {d} (unlike n) e h = fails_else n (and_first (begun Σ c r) (drops_by_other Σ c d r s) e) h
  fails_unfollowed {r} {s} {c} {d} {cs} {before} (unfollowed n m) e h = fails_by (λ rest free. right_other Σ r s rest c d before n m (and_second (begun Σ c r) (drops_by_other Σ c d r s) e)) h

  -- A part that begins with a token, and others that begin with it and a second one: the second isn't there ..
  pub takes_led : {r s : Re C} {c d : C} {cs : List C} {P : List T → Type 0} {before now : List T} → IsLeading Σ c d before true → drops_by_other Σ c d s r ≡ true → TakesPart Σ r cs P before now → TakesPart Σ (alt r s) cs P before now
  takes_led {r} {s} {c} {d} {cs} {P} {before} (leads n m) e h = takes_by (λ rest free. left_other Σ r s rest c d before n m e) h

  pub fails_led : {r s : Re C} {c d : C} {cs : List C} {before : List T} {e : Or ℕ} → IsLeading Σ c d before true → drops_by_other Σ c d s r ≡ true → FailsPart Σ r cs before e → FailsPart Σ (alt r s) cs before e
  fails_led {r} {s} {c} {d} {cs} {before} (leads n m) e h = fails_by (λ rest free. left_other Σ r s rest c d before n m e) h

  -- .. or it is, or the first isn't
  pub takes_unled : {r s : Re C} {c d : C} {cs : List C} {P : List T → Type 0} {before now : List T} → IsLeading Σ c d before false → (begun Σ c r && drops_by_two Σ c d cs r s) ≡ true → TakesPart Σ s cs P before now → TakesPart Σ (alt r s) cs P before now
  takes_unled {r} {s} {c} {d} {cs} (other n) e h = takes_else n (and_first (begun Σ c r) (drops_by_two Σ c d cs r s) e) h
  takes_unled {r} {s} {c} {d} {cs} {P} {before} (led n m) e h = takes_by (λ rest free. right_two Σ r s rest cs c d before n m (and_second (begun Σ c r) (drops_by_two Σ c d cs r s) e) free) h

  pub fails_unled : {r s : Re C} {c d : C} {cs : List C} {before : List T} {e : Or ℕ} → IsLeading Σ c d before false → (begun Σ c r && drops_by_two Σ c d cs r s) ≡ true → FailsPart Σ s cs before e → FailsPart Σ (alt r s) cs before e
  fails_unled {r} {s} {c} {d} {cs} (other n) e h = fails_else n (and_first (begun Σ c r) (drops_by_two Σ c d cs r s) e) h
  fails_unled {r} {s} {c} {d} {cs} {before} (led n m) e h = fails_by (λ rest free. right_two Σ r s rest cs c d before n m (and_second (begun Σ c r) (drops_by_two Σ c d cs r s) e) free) h

  -- what the test of the second token tells
  pub followed_by : {c d : C} {before : List T} (answer : Bool) → IsNextOf Σ c before true → answer ≡ second_fits Σ d before → IsFollowed Σ c d before answer
  followed_by true n e = followed n (sym e)
  followed_by false n e = unfollowed n (sym e)

  pub leads_by : {c d : C} {before : List T} (answer : Bool) → IsNextOf Σ c before true → IsFollowed Σ c d before answer → IsLeading Σ c d before (not answer)
  leads_by true n (followed _ m) = led n m
  leads_by false n (unlike m) = absurd (unlike_no n m)
  leads_by false n (unfollowed _ m) = leads n m
