-- What readers make of a choice by the next token, and of parts that may be left out or repeated.
use Rattle.std.proofs.Common.{◌≡◌, ℕ, List, [], ◌∷◌, ◌++◌, true, false, inl, inr, refl, sym, ◌∙◌, ap, subst, append_assoc}
use Rattle.std.specs.Prelude.{◌&&◌, Result, Ok, Err}
use Rattle.srch_base.specs.declared.faults.Or.{Or}
use Rattle.token_grammar.specs.Alphabets.{Alphabet}
use Rattle.token_grammar.specs.Language.{Re, seq, alt, many, optional, Repeats, none, more, In, verdict}
use Rattle.token_grammar.specs.Firsts.{fits_some, is_in, all_in, IsFree}
use Rattle.token_grammar.specs.steps.Deciding.{begun, excludes}
use Rattle.token_grammar.specs.Reading.{TakesPart, FailsPart, ReadsPart, IsNextOf}
use Rattle.token_grammar.proofs.Bools.{and_first, and_second}
use Rattle.token_grammar.proofs.Beginnings.{Misses, begun_misses, excluded_misses, missed, fits_in}
use Rattle.token_grammar.proofs.Rows.{empty_to, takes_by, fails_by, takes_wider, fails_wider}
use Rattle.token_grammar.proofs.Verdicts.{verdict_begun}

module _ {C T : Type 0} (Σ : Alphabet C T) where
  -- A choice: the next token decides.
  choose_left : (r s k : Re C) (t : T) (u : List T) → Misses Σ s t → verdict Σ (seq (alt r s) k) (t ∷ u) ≡ verdict Σ (seq r k) (t ∷ u)
  unfolding In
  choose_left r s k t u m = verdict_begun Σ t u (seq (alt r s) k) (seq r k) there back
    where
      there : (v : List T) → In Σ (seq (alt r s) k) (t ∷ v) → In Σ (seq r k) (t ∷ v)
      there v (a, b, is, inl first, second) = (a, b, is, first, second)
      there v (a, b, is, inr first, second) = absurd (missed Σ s k t m v (a, b, is, first, second))

      back : (v : List T) → In Σ (seq r k) (t ∷ v) → In Σ (seq (alt r s) k) (t ∷ v)
      back v (a, b, is, first, second) = (a, b, is, inl first, second)

  choose_right : (r s k : Re C) (t : T) (u : List T) → Misses Σ r t → verdict Σ (seq (alt r s) k) (t ∷ u) ≡ verdict Σ (seq s k) (t ∷ u)
  unfolding In
  choose_right r s k t u m = verdict_begun Σ t u (seq (alt r s) k) (seq s k) there back
    where
      there : (v : List T) → In Σ (seq (alt r s) k) (t ∷ v) → In Σ (seq s k) (t ∷ v)
      there v (a, b, is, inl first, second) = absurd (missed Σ r k t m v (a, b, is, first, second))
      there v (a, b, is, inr first, second) = (a, b, is, first, second)

      back : (v : List T) → In Σ (seq s k) (t ∷ v) → In Σ (seq (alt r s) k) (t ∷ v)
      back v (a, b, is, first, second) = (a, b, is, inr first, second)

  left_at : (r s k : Re C) (before : List T) (t : T) (rest : List T) → before ≡ t ∷ rest → Misses Σ s t → verdict Σ (seq (alt r s) k) before ≡ verdict Σ (seq r k) before
  left_at r s k before t rest is m =
      subst (λ u. verdict Σ (seq (alt r s) k) u ≡ verdict Σ (seq r k) u) (sym is) (choose_left r s k t rest m)

  right_at : (r s k : Re C) (before : List T) (t : T) (rest : List T) → before ≡ t ∷ rest → Misses Σ r t → verdict Σ (seq (alt r s) k) before ≡ verdict Σ (seq s k) before
  right_at r s k before t rest is m =
      subst (λ u. verdict Σ (seq (alt r s) k) u ≡ verdict Σ (seq s k) u) (sym is) (choose_right r s k t rest m)

  pub reads_wider : {A : Type 0} (r : Re C) (cs ds : List C) (Is : A → List T → Type 0) (before : List T) (now : List T) (result : Result A (Or ℕ)) → all_in Σ cs ds ≡ true → ReadsPart Σ r cs Is before result now → ReadsPart Σ r ds Is before result now
  reads_wider r cs ds Is before now (Ok x) e h = takes_wider e h
  reads_wider r cs ds Is before now (Err x) e h = fails_wider e h

  -- A part that may be left out: taken where the next token begins it, if what follows doesn't begin so.
  taken_at : (r k : Re C) (cs : List C) (before : List T) (t : T) (rest : List T) → before ≡ t ∷ rest → fits_some Σ cs t ≡ true → IsFree Σ cs k → verdict Σ (seq (optional r) k) before ≡ verdict Σ (seq r k) before
  unfolding In
  taken_at r k cs before t rest is f free =
      subst (λ u. verdict Σ (seq (optional r) k) u ≡ verdict Σ (seq r k) u) (sym is) (verdict_begun Σ t rest (seq (optional r) k) (seq r k) there back)
    where
      there : (v : List T) → In Σ (seq (optional r) k) (t ∷ v) → In Σ (seq r k) (t ∷ v)
      there v (a, b, same, inl first, second) = (a, b, same, first, second)
      there v (a, b, same, inr first, second) = absurd (free t v f (empty_to Σ k (t ∷ v) (a, b, same, first, second)))

      back : (v : List T) → In Σ (seq r k) (t ∷ v) → In Σ (seq (optional r) k) (t ∷ v)
      back v (a, b, same, first, second) = (a, b, same, inl first, second)

  -- a text of r and then k that begins with a token with which r doesn't begin is a text of k
  past : (r k : Re C) (t : T) → ((u : List T) → In Σ r (t ∷ u) → ⊥) → (v : List T) → In Σ (seq r k) (t ∷ v) → In Σ k (t ∷ v)
  unfolding In
  past r k t never v ([], b, is, first, second) = subst (λ u. In Σ k u) (sym is) second
  past r k t never v (x ∷ a, b, is, first, second) =
      let same : x ≡ t = cc in
      absurd (never a (subst (λ (y : T). In Σ r (y ∷ a)) same first))

  skipped_at : (r k : Re C) (before : List T) (t : T) (rest : List T) → before ≡ t ∷ rest → ((u : List T) → In Σ r (t ∷ u) → ⊥) → verdict Σ (seq (optional r) k) before ≡ verdict Σ k before
  unfolding In
  skipped_at r k before t rest is never =
      subst (λ u. verdict Σ (seq (optional r) k) u ≡ verdict Σ k u) (sym is) (verdict_begun Σ t rest (seq (optional r) k) k there back)
    where
      there : (v : List T) → In Σ (seq (optional r) k) (t ∷ v) → In Σ k (t ∷ v)
      there v (a, b, same, inl first, second) = past r k t never v (a, b, same, first, second)
      there v (a, b, same, inr first, second) = empty_to Σ k (t ∷ v) (a, b, same, first, second)

      back : (v : List T) → In Σ k (t ∷ v) → In Σ (seq (optional r) k) (t ∷ v)
      back v h = ([], t ∷ v, refl, inr refl, h)

  -- A part that may be repeated: once more where the next token begins it ..
  pub more_at : (r k : Re C) (cs : List C) (before : List T) (t : T) (rest : List T) → before ≡ t ∷ rest → fits_some Σ cs t ≡ true → IsFree Σ cs k → verdict Σ (seq (many r) k) before ≡ verdict Σ (seq r (seq (many r) k)) before
  unfolding In
  more_at r k cs before t rest is f free =
      subst (λ u. verdict Σ (seq (many r) k) u ≡ verdict Σ (seq r (seq (many r) k)) u) (sym is) (verdict_begun Σ t rest (seq (many r) k) (seq r (seq (many r) k)) (λ v h. there v h) back)
    where
      go : (v a b : List T) → (t ∷ v) ≡ a ++ b → Repeats (In Σ r) a → In Σ k b → In Σ (seq r (seq (many r) k)) (t ∷ v)
      go v a b same (none e) second = absurd (free t v f (subst (λ u. In Σ k u) (sym (same ∙ ap (λ w. w ++ b) e)) second))
      go v a b same (more c d e first later) second = (c, d ++ b, same ∙ ap (λ w. w ++ b) e ∙ append_assoc c d b, first, (d, b, refl, later, second))

      there : (v : List T) → In Σ (seq (many r) k) (t ∷ v) → In Σ (seq r (seq (many r) k)) (t ∷ v)
      there v (a, b, same, first, second) = go v a b same first second

      back : (v : List T) → In Σ (seq r (seq (many r) k)) (t ∷ v) → In Σ (seq (many r) k) (t ∷ v)
      back v (c, db, same, first, (d, b, e, later, second)) = (c ++ d, b, same ∙ ap (λ w. c ++ w) e ∙ sym (append_assoc c d b), more c d refl first later, second)

  -- .. and no more where it doesn't
  pub ended_at : (r k : Re C) (before : List T) (t : T) (rest : List T) → before ≡ t ∷ rest → ((u : List T) → In Σ r (t ∷ u) → ⊥) → verdict Σ (seq (many r) k) before ≡ verdict Σ k before
  unfolding In
  ended_at r k before t rest is never =
      subst (λ u. verdict Σ (seq (many r) k) u ≡ verdict Σ k u) (sym is) (verdict_begun Σ t rest (seq (many r) k) k there back)
    where
      no_more : (v w : List T) → w ≡ t ∷ v → Repeats (In Σ r) w → ⊥
      no_more v w same (none e) = cc
      no_more v w same (more [] b e first later) = no_more v b (sym e ∙ same) later
      no_more v w same (more (x ∷ a) b e first later) =
          let like : x ≡ t = cc in
          never a (subst (λ (y : T). In Σ r (y ∷ a)) like first)

      there : (v : List T) → In Σ (seq (many r) k) (t ∷ v) → In Σ k (t ∷ v)
      there v h = past (many r) k t (λ u h. no_more u (t ∷ u) refl h) v h

      back : (v : List T) → In Σ k (t ∷ v) → In Σ (seq (many r) k) (t ∷ v)
      back v h = ([], t ∷ v, refl, none refl, h)

module _ {C T : Type 0} {Σ : Alphabet C T} where
  -- The next token is of the class, which the other part excludes.
  pub takes_if : {r s : Re C} {c : C} {cs : List C} {P : List T → Type 0} {before now : List T} → IsNextOf Σ c before true → excludes Σ c s ≡ true → TakesPart Σ r cs P before now → TakesPart Σ (alt r s) cs P before now
  takes_if {r} {s} {c} {cs} {P} {before} n e h = takes_by (λ rest free. left_at Σ r s rest before n.next n.rest n.is (excluded_misses Σ c s n.next e n.fits)) h

  pub fails_if : {r s : Re C} {c : C} {cs : List C} {before : List T} {e : Or ℕ} → IsNextOf Σ c before true → excludes Σ c s ≡ true → FailsPart Σ r cs before e → FailsPart Σ (alt r s) cs before e
  fails_if {r} {s} {c} {cs} {before} n e h = fails_by (λ rest free. left_at Σ r s rest before n.next n.rest n.is (excluded_misses Σ c s n.next e n.fits)) h

  -- the same for the second part of a choice
  pub takes_second : {r s : Re C} {c : C} {cs : List C} {P : List T → Type 0} {before now : List T} → IsNextOf Σ c before true → excludes Σ c r ≡ true → TakesPart Σ s cs P before now → TakesPart Σ (alt r s) cs P before now
  takes_second {r} {s} {c} {cs} {P} {before} n e h = takes_by (λ rest free. right_at Σ r s rest before n.next n.rest n.is (excluded_misses Σ c r n.next e n.fits)) h

  pub fails_second : {r s : Re C} {c : C} {cs : List C} {before : List T} {e : Or ℕ} → IsNextOf Σ c before true → excludes Σ c r ≡ true → FailsPart Σ s cs before e → FailsPart Σ (alt r s) cs before e
  fails_second {r} {s} {c} {cs} {before} n e h = fails_by (λ rest free. right_at Σ r s rest before n.next n.rest n.is (excluded_misses Σ c r n.next e n.fits)) h

  -- The next token isn't of the class with which the first part begins.
  pub takes_else : {r s : Re C} {c : C} {cs : List C} {P : List T → Type 0} {before now : List T} → IsNextOf Σ c before false → begun Σ c r ≡ true → TakesPart Σ s cs P before now → TakesPart Σ (alt r s) cs P before now
  takes_else {r} {s} {c} {cs} {P} {before} n e h = takes_by (λ rest free. right_at Σ r s rest before n.next n.rest n.is (begun_misses Σ c r n.next e n.fits)) h

  pub fails_else : {r s : Re C} {c : C} {cs : List C} {before : List T} {e : Or ℕ} → IsNextOf Σ c before false → begun Σ c r ≡ true → FailsPart Σ s cs before e → FailsPart Σ (alt r s) cs before e
  fails_else {r} {s} {c} {cs} {before} n e h = fails_by (λ rest free. right_at Σ r s rest before n.next n.rest n.is (begun_misses Σ c r n.next e n.fits)) h

  -- A reader that answers for its part answers for a choice with it.
  pub reads_if : {A : Type 0} (r s : Re C) {c : C} (cs ds : List C) (Is : A → List T → Type 0) {before : List T} (now : List T) (result : Result A (Or ℕ)) → IsNextOf Σ c before true → (excludes Σ c s && all_in Σ cs ds) ≡ true → ReadsPart Σ r cs Is before result now → ReadsPart Σ (alt r s) ds Is before result now
  reads_if r s {c} cs ds Is now (Ok x) n e h = takes_if n (and_first (excludes Σ c s) (all_in Σ cs ds) e) (takes_wider (and_second (excludes Σ c s) (all_in Σ cs ds) e) h)
  reads_if r s {c} cs ds Is now (Err x) n e h = fails_if n (and_first (excludes Σ c s) (all_in Σ cs ds) e) (fails_wider (and_second (excludes Σ c s) (all_in Σ cs ds) e) h)

  pub reads_else : {A : Type 0} (r s : Re C) {c : C} (cs : List C) (Is : A → List T → Type 0) {before : List T} (now : List T) (result : Result A (Or ℕ)) → IsNextOf Σ c before false → begun Σ c r ≡ true → ReadsPart Σ s cs Is before result now → ReadsPart Σ (alt r s) cs Is before result now
  reads_else r s cs Is now (Ok x) n e h = takes_else n e h
  reads_else r s cs Is now (Err x) n e h = fails_else n e h

  pub optional_if : {r : Re C} {c : C} {cs ds : List C} {P : List T → Type 0} {before now : List T} → IsNextOf Σ c before true → (is_in Σ c ds && all_in Σ cs ds) ≡ true → TakesPart Σ r cs P before now → TakesPart Σ (optional r) ds P before now
  optional_if {r} {c} {cs} {ds} {P} {before} n e h =
      takes_by (λ rest free. taken_at Σ r rest ds before n.next n.rest n.is (fits_in Σ c ds n.next (and_first (is_in Σ c ds) (all_in Σ cs ds) e) n.fits) free) (takes_wider (and_second (is_in Σ c ds) (all_in Σ cs ds) e) h)

  pub optional_fails : {r : Re C} {c : C} {cs ds : List C} {before : List T} {e : Or ℕ} → IsNextOf Σ c before true → (is_in Σ c ds && all_in Σ cs ds) ≡ true → FailsPart Σ r cs before e → FailsPart Σ (optional r) ds before e
  optional_fails {r} {c} {cs} {ds} {before} n e h =
      fails_by (λ rest free. taken_at Σ r rest ds before n.next n.rest n.is (fits_in Σ c ds n.next (and_first (is_in Σ c ds) (all_in Σ cs ds) e) n.fits) free) (fails_wider (and_second (is_in Σ c ds) (all_in Σ cs ds) e) h)

  pub optional_else : {r : Re C} {c : C} {cs : List C} {P : List T → Type 0} {before now : List T} → IsNextOf Σ c before false → begun Σ c r ≡ true → P [] → now ≡ before → TakesPart Σ (optional r) cs P before now
  optional_else {r} {c} {cs} {P} {before} {now} n e h same =
      let nothing : TakesPart Σ (optional r) cs P before before = record { takes = λ rest free. skipped_at Σ r rest before n.next n.rest n.is (begun_misses Σ c r n.next e n.fits).1; used = []; is = refl; has = h } in
      subst (λ u. TakesPart Σ (optional r) cs P before u) (sym same) nothing

  -- nothing of a part that the next token doesn't begin
  pub takes_nothing : {r : Re C} {cs : List C} {P : List T → Type 0} {before : List T} (t : T) (rest : List T) → before ≡ t ∷ rest → ((u : List T) → In Σ r (t ∷ u) → ⊥) → P [] → TakesPart Σ (optional r) cs P before before
  takes_nothing {r} {cs} {P} {before} t rest is never h = record { takes = λ more free. skipped_at Σ r more before t rest is never; used = []; is = refl; has = h }
