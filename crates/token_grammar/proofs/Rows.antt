-- What readers of parts in a row make of the tokens before them.
use Rattle.std.proofs.Common.{arith, ◌≤◌, length, length-append, ◌≡◌, ℕ, List, [], ◌∷◌, ◌++◌, true, false, Some, None, refl, sym, ◌∙◌, ap, subst, append_assoc}
use Rattle.std.specs.Prelude.{◌||◌, not, if◌then◌else◌, Result, Err}
use Rattle.std.specs.Result.{IsErrAnd}
use Rattle.std.proofs.lemmas.Result.{err_from_is_err_and}
use Rattle.srch_base.specs.declared.faults.Or.{Or}
use Rattle.srch_base.specs.declared.faults.Or.TheVariants.{Fault}
use Rattle.token_grammar.specs.Alphabets.{Alphabet}
use Rattle.token_grammar.specs.Language.{Re, empty, one, seq, In, nullable, chain, either, verdict, next}
use Rattle.token_grammar.specs.Firsts.{all_in, IsFree, apart, may_follow}
use Rattle.token_grammar.specs.Values.{◌then◌}
use Rattle.token_grammar.specs.Reading.{first_place, TakesPart, FailsPart, ReadsPart, IsNextOf}
use Rattle.token_grammar.proofs.Bools.{both_true, or_right, clash}
use Rattle.token_grammar.proofs.Beginnings.{apart_none, free_fewer, free_rest}
use Rattle.token_grammar.proofs.Verdicts.{Within, verdict_same}

fault_same : (m n : ℕ) → Fault m ≡ Fault n → m ≡ n
fault_same m n e = cc

module _ {C T : Type 0} (Σ : Alphabet C T) where
  -- Texts, regrouped.
  assoc_to : (r s k : Re C) → Within Σ (seq (seq r s) k) (seq r (seq s k))
  unfolding In
  assoc_to r s k u (ab, c, e, (a, b, f, first, second), third) = (a, b ++ c, e ∙ ap (λ v. v ++ c) f ∙ append_assoc a b c, first, (b, c, refl, second, third))

  assoc_from : (r s k : Re C) → Within Σ (seq r (seq s k)) (seq (seq r s) k)
  unfolding In
  assoc_from r s k u (a, bc, e, first, (b, c, f, second, third)) = (a ++ b, c, e ∙ ap (λ v. a ++ v) f ∙ sym (append_assoc a b c), (a, b, refl, first, second), third)

  pub regroup : (r s k : Re C) (u : List T) → verdict Σ (seq (seq r s) k) u ≡ verdict Σ (seq r (seq s k)) u
  regroup r s k u = verdict_same Σ u (seq (seq r s) k) (seq r (seq s k)) (assoc_to r s k) (assoc_from r s k)

  pub empty_to : (k : Re C) → Within Σ (seq empty k) k
  unfolding In
  empty_to k u (a, b, e, first, second) = subst (λ v. In Σ k v) (sym (e ∙ ap (λ v. v ++ b) first)) second

  pub empty_from : (k : Re C) → Within Σ k (seq empty k)
  unfolding In
  empty_from k u h = ([], u, refl, refl, h)

  -- .. as parts with the same texts do
  with_rest : (r s k : Re C) → Within Σ r s → Within Σ (seq r k) (seq s k)
  unfolding In
  with_rest r s k there u (a, b, e, first, second) = (a, b, e, there a first, second)

  -- where the first part can't go on
  pub any_follows : (s : Re C) (ds : List C) → may_follow Σ [] s ds ≡ true
  any_follows s ds = both_true (apart Σ [] s) (not (nullable s) || true) (apart_none Σ s) (or_right (not (nullable s)) true refl)

  -- One token.
  one_taken : (c : C) (k : Re C) (t : T) (u : List T) → Σ.fits c t ≡ true → verdict Σ (seq (one c) k) (t ∷ u) ≡ verdict Σ k u
  unfolding verdict
  one_taken c k t u e = ap (λ b. next (t ∷ u) (either (chain (if b then Some empty else None) k) None) (λ s. verdict Σ s u)) e

  one_refused : (c : C) (k : Re C) (t : T) (u : List T) → Σ.fits c t ≡ false → verdict Σ (seq (one c) k) (t ∷ u) ≡ Some (t ∷ u)
  unfolding verdict
  one_refused c k t u e = ap (λ b. next (t ∷ u) (either (chain (if b then Some empty else None) k) None) (λ s. verdict Σ s u)) e

module _ {C T : Type 0} {Σ : Alphabet C T} where
  -- Two parts leave what lies before at the same place, whatever follows them: what a reader makes of the one, it makes of the other.
  pub takes_by : {r s : Re C} {cs : List C} {P : List T → Type 0} {before now : List T} → ((rest : Re C) → IsFree Σ cs rest → verdict Σ (seq r rest) before ≡ verdict Σ (seq s rest) before) → TakesPart Σ s cs P before now → TakesPart Σ r cs P before now
  takes_by same h = record { takes = λ rest free. same rest free ∙ h.takes rest free; used = h.used; is = h.is; has = h.has }

  pub fails_by : {r s : Re C} {cs : List C} {before : List T} {e : Or ℕ} → ((rest : Re C) → IsFree Σ cs rest → verdict Σ (seq r rest) before ≡ verdict Σ (seq s rest) before) → FailsPart Σ s cs before e → FailsPart Σ r cs before e
  fails_by same h = record { fails = λ place is. let f = h.fails place is in record { rest = f.rest; place_is = f.place_is; leaves = λ rest free. same rest free ∙ f.leaves rest free } }

  pub takes_same : {r s : Re C} {cs : List C} {P : List T → Type 0} {before now : List T} → Within Σ r s → Within Σ s r → TakesPart Σ s cs P before now → TakesPart Σ r cs P before now
  takes_same {r} {s} {cs} {P} {before} there back h = takes_by (λ k free. verdict_same Σ before (seq r k) (seq s k) (with_rest Σ r s k there) (with_rest Σ s r k back)) h

  pub fails_same : {r s : Re C} {cs : List C} {before : List T} {e : Or ℕ} → Within Σ r s → Within Σ s r → FailsPart Σ s cs before e → FailsPart Σ r cs before e
  fails_same {r} {s} {cs} {before} there back h = fails_by (λ k free. verdict_same Σ before (seq r k) (seq s k) (with_rest Σ r s k there) (with_rest Σ s r k back)) h

  -- In a row: one part, then another.
  pub takes_seq : {r s : Re C} {cs ds : List C} {P Q : List T → Type 0} {before mid now : List T} → TakesPart Σ r cs P before mid → may_follow Σ cs s ds ≡ true → TakesPart Σ s ds Q mid now → TakesPart Σ (seq r s) ds (P then Q) before now
  takes_seq {r} {s} {cs} {ds} {P} {Q} {before} {mid} {now} first follows second = record {
    takes = λ rest free. regroup Σ r s rest before ∙ first.takes (seq s rest) (free_rest Σ cs s ds rest follows free) ∙ second.takes rest free;
    used = first.used ++ second.used;
    is = first.is ∙ ap (λ v. first.used ++ v) second.is ∙ sym (append_assoc first.used second.used now);
    has = (first.used, second.used, refl, first.has, second.has);
  }

  pub fails_first : {r s : Re C} {cs ds : List C} {before : List T} {e : Or ℕ} → FailsPart Σ r cs before e → may_follow Σ cs s ds ≡ true → FailsPart Σ (seq r s) ds before e
  fails_first {r} {s} {cs} {ds} {before} {e} first follows = record {
    fails = λ place is. let f = first.fails place is in record { rest = f.rest; place_is = f.place_is; leaves = λ rest free. regroup Σ r s rest before ∙ f.leaves (seq s rest) (free_rest Σ cs s ds rest follows free) };
  }

  pub fails_next : {r s : Re C} {cs ds : List C} {P : List T → Type 0} {before mid : List T} {e : Or ℕ} → TakesPart Σ r cs P before mid → may_follow Σ cs s ds ≡ true → FailsPart Σ s ds mid e → FailsPart Σ (seq r s) ds before e
  fails_next {r} {s} {cs} {ds} {P} {before} {mid} {e} first follows second = record {
    fails = λ place is. let f = second.fails place is in record { rest = f.rest; place_is = f.place_is; leaves = λ rest free. regroup Σ r s rest before ∙ first.takes (seq s rest) (free_rest Σ cs s ds rest follows free) ∙ f.leaves rest free };
  }

  pub plain_seq : {r s : Re C} {ds : List C} {P Q : List T → Type 0} {before mid now : List T} → TakesPart Σ r [] P before mid → TakesPart Σ s ds Q mid now → TakesPart Σ (seq r s) ds (P then Q) before now
  plain_seq {r} {s} {ds} first second = takes_seq first (any_follows Σ s ds) second

  pub plain_first : {r s : Re C} {ds : List C} {before : List T} {e : Or ℕ} → FailsPart Σ r [] before e → FailsPart Σ (seq r s) ds before e
  plain_first {r} {s} {ds} first = fails_first first (any_follows Σ s ds)

  pub plain_next : {r s : Re C} {ds : List C} {P : List T → Type 0} {before mid : List T} {e : Or ℕ} → TakesPart Σ r [] P before mid → FailsPart Σ s ds mid e → FailsPart Σ (seq r s) ds before e
  plain_next {r} {s} {ds} first second = fails_next first (any_follows Σ s ds) second

  -- the exit of a `?`
  pub fails_with : {A : Type 0} {r : Re C} {cs : List C} (Is : A → List T → Type 0) {before : List T} (now : List T) {e : Or ℕ} (result : Result A (Or ℕ)) → IsErrAnd result (λ y. y ≡ e) → FailsPart Σ r cs before e → ReadsPart Σ r cs Is before result now
  fails_with {A} {r} {cs} Is {before} now {e} result err h =
      let (y, is, same) = err_from_is_err_and result err in
      subst (λ (x : Result A (Or ℕ)). ReadsPart Σ r cs Is before x now) (sym (is ∙ ap Err same)) h

  -- What goes on may be given too largely.
  pub takes_wider : {r : Re C} {cs ds : List C} {P : List T → Type 0} {before now : List T} → all_in Σ cs ds ≡ true → TakesPart Σ r cs P before now → TakesPart Σ r ds P before now
  takes_wider {r} {cs} {ds} {P} {before} {now} wide h = record { takes = λ rest free. h.takes rest (free_fewer Σ cs ds rest wide free); used = h.used; is = h.is; has = h.has }

  pub fails_wider : {r : Re C} {cs ds : List C} {before : List T} {e : Or ℕ} → all_in Σ cs ds ≡ true → FailsPart Σ r cs before e → FailsPart Σ r ds before e
  fails_wider {r} {cs} {ds} {before} {e} wide h = record { fails = λ place is. let f = h.fails place is in record { rest = f.rest; place_is = f.place_is; leaves = λ rest free. f.leaves rest (free_fewer Σ cs ds rest wide free) } }

  -- the tokens may be said in other words
  pub takes_as : {r : Re C} {cs : List C} {P Q : List T → Type 0} {before now : List T} → ((u : List T) → P u → Q u) → TakesPart Σ r cs P before now → TakesPart Σ r cs Q before now
  takes_as f h = record { takes = h.takes; used = h.used; is = h.is; has = f h.used h.has }

  -- what follows begins where this ends
  pub from_there : {r : Re C} {cs : List C} {P : List T → Type 0} {before there now : List T} → there ≡ before → TakesPart Σ r cs P there now → TakesPart Σ r cs P before now
  from_there {r} {cs} {P} {before} {there} {now} same h = subst (λ u. TakesPart Σ r cs P u now) same h

  pub fails_there : {r : Re C} {cs : List C} {before there : List T} {e : Or ℕ} → there ≡ before → FailsPart Σ r cs there e → FailsPart Σ r cs before e
  fails_there {r} {cs} {before} {there} {e} same h = subst (λ u. FailsPart Σ r cs u e) same h

  pub now_there : {r : Re C} {cs : List C} {P : List T → Type 0} {before there now : List T} → now ≡ there → TakesPart Σ r cs P before there → TakesPart Σ r cs P before now
  now_there {r} {cs} {P} {before} {there} {now} same h = subst (λ u. TakesPart Σ r cs P before u) (sym same) h

  -- what is left is no longer than what was
  pub takes_shorter : {r : Re C} {cs : List C} {P : List T → Type 0} {before now : List T} → TakesPart Σ r cs P before now → length now ≤ length before
  takes_shorter {r} {cs} {P} {before} {now} h = omega (arith, ap length h.is, length-append h.used now)

  pub takes_one : {c : C} {cs : List C} {P : List T → Type 0} {t : T} {now : List T} → Σ.fits c t ≡ true → P (t ∷ []) → TakesPart Σ (one c) cs P (t ∷ now) now
  takes_one {c} {cs} {P} {t} {now} e h = record { takes = λ rest free. one_taken Σ c rest t now e; used = t ∷ []; is = refl; has = h }

  pub fails_one : {c : C} {cs : List C} {t : T} {rest : List T} → Σ.fits c t ≡ false → FailsPart Σ (one c) cs (t ∷ rest) (Fault (Σ.at t))
  fails_one {c} {cs} {t} {rest} e = record { fails = λ place is. record { rest = t ∷ rest; place_is = sym (fault_same (Σ.at t) place is); leaves = λ more free. one_refused Σ c more t rest e } }

  -- the token that was taken is of the class
  pub fits_next : {c : C} {t : T} {before now : List T} → IsNextOf Σ c before true → before ≡ t ∷ now → Σ.fits c t ≡ true
  fits_next {c} {t} {before} {now} n is =
      let same : n.next ≡ t = cc (n.is, is) in
      subst (λ (x : T). Σ.fits c x ≡ true) same n.fits

  pub takes_next : {c : C} {cs : List C} {P : List T → Type 0} {t : T} {before now : List T} → IsNextOf Σ c before true → before ≡ t ∷ now → (Σ.fits c t ≡ true → P (t ∷ [])) → TakesPart Σ (one c) cs P before now
  takes_next {c} {cs} {P} {t} {before} {now} n is h =
      let fit = fits_next n is in
      subst (λ u. TakesPart Σ (one c) cs P u now) (sym is) (takes_one fit (h fit))

  pub fails_at : {c : C} {cs : List C} {before : List T} {place : ℕ} → IsNextOf Σ c before false → place ≡ first_place Σ before → FailsPart Σ (one c) cs before (Fault place)
  fails_at {c} {cs} {before} {place} n at =
      let at_next : place ≡ Σ.at n.next = at ∙ ap (first_place Σ) n.is in
      subst (λ (p : ℕ). FailsPart Σ (one c) cs before (Fault p)) (sym at_next) (subst (λ u. FailsPart Σ (one c) cs u (Fault (Σ.at n.next))) (sym n.is) (fails_one n.fits))

  -- A token isn't of a class and of none of it.
  pub unlike_no : {c : C} {before : List T} → IsNextOf Σ c before true → IsNextOf Σ c before false → ⊥
  unlike_no {c} {before} n m =
      let same : n.next ≡ m.next = cc (n.is, m.is) in
      clash (Σ.fits c n.next) n.fits (ap (Σ.fits c) same ∙ m.fits)
