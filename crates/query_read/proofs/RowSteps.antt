-- What readers make of a part and then of more parts in a row, and of a choice of two parts that may be empty.
use Rattle.std.proofs.Common.{arith, ◌≡◌, ◌<◌, ◌⊎◌, ℕ, List, [], ◌∷◌, ◌++◌, length, length-append, true, false, inl, inr, refl, sym, ◌∙◌, ap, subst, append_assoc, append-nil}
use Rattle.std.specs.Prelude.{Result, Err}
use Rattle.srch_base.specs.declared.faults.Or.{Or}
use Rattle.srch_base.specs.declared.faults.Or.TheVariants.{NoMemory, Fault}
use Rattle.token_grammar.specs.Alphabets.{Alphabet}
use Rattle.token_grammar.specs.Language.{Re, seq, alt, many, In, Repeats, none, more, nullable, verdict}
use Rattle.token_grammar.specs.Firsts.{is_in, IsFree, apart, may_follow}
use Rattle.token_grammar.specs.steps.Deciding.{begun}
use Rattle.token_grammar.specs.Values.{◌then◌, AreInRow}
use Rattle.token_grammar.specs.Reading.{TakesPart, FailsPart, ReadsPart, IsNextOf}
use Rattle.token_grammar.proofs.Bools.{or_left}
use Rattle.token_grammar.proofs.Laws.{nullable_has}
use Rattle.token_grammar.proofs.Beginnings.{apart_no, begun_misses, fits_in, free_rest}
use Rattle.token_grammar.proofs.Verdicts.{verdict_begun}
use Rattle.token_grammar.proofs.Rows.{regroup, takes_by, fails_by}
use Rattle.token_grammar.proofs.Choices.{more_at, ended_at}
use Rattle.token_grammar.proofs.Lists.{row_last}

-- No text of the part begins with the next token.
abbrev pub IsOver : {C T : Type 0} → Alphabet C T → Re C → List T → Type 0
IsOver {T = T} Σ r before = (t : T) × (rest : List T) × (before ≡ t ∷ rest) × ((u : List T) → In Σ r (t ∷ u) → ⊥)

-- The part r has been read, and then these values of s in a row; others may follow.
pub record TakesFrom {C T B : Type 0} (Σ : Alphabet C T) (r s : Re C) (goes_on : List C) (P : List T → Type 0) (Is : B → List T → Type 0) (before : List T) (items : List B) (now : List T) : Type 0 where
  pub takes : (rest : Re C) → IsFree Σ goes_on rest → verdict Σ (seq (seq r (many s)) rest) before ≡ verdict Σ (seq (many s) rest) now
  pub used : List T
  pub is : before ≡ used ++ now
  pub has : (P then AreInRow Is items) used

module _ {C T : Type 0} (Σ : Alphabet C T) where
  left_of : (r s k : Re C) (t : T) (u : List T) → nullable r ≡ true → ((v : List T) → In Σ s (t ∷ v) → ⊥) → verdict Σ (seq (alt r s) k) (t ∷ u) ≡ verdict Σ (seq r k) (t ∷ u)
  unfolding In
  left_of r s k t u nil never = verdict_begun Σ t u (seq (alt r s) k) (seq r k) there back
    where
      there : (v : List T) → In Σ (seq (alt r s) k) (t ∷ v) → In Σ (seq r k) (t ∷ v)
      there v (a, b, is, inl first, second) = (a, b, is, first, second)
      there v ([], b, is, inr first, second) = ([], t ∷ v, refl, nullable_has Σ r nil, subst (λ w. In Σ k w) (sym is) second)
      there v (x ∷ a, b, is, inr first, second) =
          let same : x ≡ t = cc in
          absurd (never a (subst (λ (y : T). In Σ s (y ∷ a)) same first))

      back : (v : List T) → In Σ (seq r k) (t ∷ v) → In Σ (seq (alt r s) k) (t ∷ v)
      back v (a, b, is, first, second) = (a, b, is, inl first, second)

  right_of : (r s k : Re C) (t : T) (u : List T) → nullable s ≡ true → ((v : List T) → In Σ r (t ∷ v) → ⊥) → verdict Σ (seq (alt r s) k) (t ∷ u) ≡ verdict Σ (seq s k) (t ∷ u)
  unfolding In
  right_of r s k t u nil never = verdict_begun Σ t u (seq (alt r s) k) (seq s k) there back
    where
      there : (v : List T) → In Σ (seq (alt r s) k) (t ∷ v) → In Σ (seq s k) (t ∷ v)
      there v (a, b, is, inr first, second) = (a, b, is, first, second)
      there v ([], b, is, inl first, second) = ([], t ∷ v, refl, nullable_has Σ s nil, subst (λ w. In Σ k w) (sym is) second)
      there v (x ∷ a, b, is, inl first, second) =
          let same : x ≡ t = cc in
          absurd (never a (subst (λ (y : T). In Σ r (y ∷ a)) same first))

      back : (v : List T) → In Σ (seq s k) (t ∷ v) → In Σ (seq (alt r s) k) (t ∷ v)
      back v (a, b, is, first, second) = (a, b, is, inr first, second)

  left_over : (r s k : Re C) (before : List T) → nullable r ≡ true → IsOver Σ s before → verdict Σ (seq (alt r s) k) before ≡ verdict Σ (seq r k) before
  left_over r s k before nil (t, rest, is, never) =
      subst (λ u. verdict Σ (seq (alt r s) k) u ≡ verdict Σ (seq r k) u) (sym is) (left_of r s k t rest nil never)

  right_over : (r s k : Re C) (before : List T) → nullable s ≡ true → IsOver Σ r before → verdict Σ (seq (alt r s) k) before ≡ verdict Σ (seq s k) before
  right_over r s k before nil (t, rest, is, never) =
      subst (λ u. verdict Σ (seq (alt r s) k) u ≡ verdict Σ (seq s k) u) (sym is) (right_of r s k t rest nil never)

  many_no : (r : Re C) (t : T) (v w : List T) → w ≡ t ∷ v → ((u : List T) → In Σ r (t ∷ u) → ⊥) → Repeats (In Σ r) w → ⊥
  many_no r t v w same never (none e) = cc
  many_no r t v w same never (more [] b e first later) = many_no r t v b (sym e ∙ same) never later
  many_no r t v w same never (more (x ∷ a) b e first later) =
      let like : x ≡ t = cc in
      never a (subst (λ (y : T). In Σ r (y ∷ a)) like first)

  pub over_either : (r s : Re C) {before : List T} → IsOver Σ r before → IsOver Σ s before → IsOver Σ (alt r s) before
  unfolding In
  over_either r s {before} (t, rest, is, never) (t', rest', is', never') = (t, rest, is, λ u h. go u h)
    where
      go : (u : List T) → In Σ (alt r s) (t ∷ u) → ⊥
      go u (inl h) = never u h
      go u (inr h) =
          let same : t ≡ t' = cc (is, is') in
          never' u (subst (λ (y : T). In Σ s (y ∷ u)) same h)

  pub over_many : (r : Re C) {before : List T} → IsOver Σ r before → IsOver Σ (many r) before
  unfolding In
  over_many r {before} (t, rest, is, never) = (t, rest, is, λ u h. many_no r t u (t ∷ u) refl never h)

  -- what the next token says
  pub over_else : (r : Re C) {c : C} {before : List T} → IsNextOf Σ c before false → begun Σ c r ≡ true → IsOver Σ r before
  over_else r {c} {before} n e = (n.next, n.rest, n.is, (begun_misses Σ c r n.next e n.fits).1)

  pub over_if : (r : Re C) {c : C} {before : List T} → IsNextOf Σ c before true → apart Σ (c ∷ []) r ≡ true → IsOver Σ r before
  over_if r {c} {before} n e = (n.next, n.rest, n.is, λ u h. apart_no Σ (c ∷ []) r n.next e (or_left (Σ.fits c n.next) false n.fits) u h)

module _ {C T : Type 0} {Σ : Alphabet C T} where
  -- A choice of two parts of which the one that is left out may be empty.
  pub takes_left : {r s : Re C} {cs : List C} {P : List T → Type 0} {before now : List T} → nullable r ≡ true → IsOver Σ s before → TakesPart Σ r cs P before now → TakesPart Σ (alt r s) cs P before now
  takes_left {r} {s} {cs} {P} {before} nil over h = takes_by (λ rest free. left_over Σ r s rest before nil over) h

  pub fails_left : {r s : Re C} {cs : List C} {before : List T} {e : Or ℕ} → nullable r ≡ true → IsOver Σ s before → FailsPart Σ r cs before e → FailsPart Σ (alt r s) cs before e
  fails_left {r} {s} {cs} {before} nil over h = fails_by (λ rest free. left_over Σ r s rest before nil over) h

  pub takes_right : {r s : Re C} {cs : List C} {P : List T → Type 0} {before now : List T} → nullable s ≡ true → IsOver Σ r before → TakesPart Σ s cs P before now → TakesPart Σ (alt r s) cs P before now
  takes_right {r} {s} {cs} {P} {before} nil over h = takes_by (λ rest free. right_over Σ r s rest before nil over) h

  pub fails_right : {r s : Re C} {cs : List C} {before : List T} {e : Or ℕ} → nullable s ≡ true → IsOver Σ r before → FailsPart Σ s cs before e → FailsPart Σ (alt r s) cs before e
  fails_right {r} {s} {cs} {before} nil over h = fails_by (λ rest free. right_over Σ r s rest before nil over) h

  -- A row that is over: no part of it is read.
  pub row_empty : {r : Re C} {cs : List C} {P : List T → Type 0} {before : List T} → IsOver Σ r before → P [] → TakesPart Σ (many r) cs P before before
  row_empty {r} {cs} {P} {before} (t, rest, is, never) h = record { takes = λ k free. ended_at Σ r k before t rest is never; used = []; is = refl; has = h }

  -- The first part ..
  pub from_first : {B : Type 0} {r s : Re C} {cs ds : List C} {P : List T → Type 0} {Is : B → List T → Type 0} {before now : List T} → TakesPart Σ r cs P before now → may_follow Σ cs (many s) ds ≡ true → TakesFrom Σ r s ds P Is before [] now
  from_first {B} {r} {s} {cs} {ds} {P} {Is} {before} {now} h follows = record {
    takes = λ rest free. regroup Σ r (many s) rest before ∙ h.takes (seq (many s) rest) (free_rest Σ cs (many s) ds rest follows free);
    used = h.used;
    is = h.is;
    has = (h.used, [], sym (append-nil h.used), h.has, refl);
  }

  -- .. one more part, ..
  pub from_more : {B : Type 0} {r s : Re C} {c : C} {cs ds : List C} {P : List T → Type 0} {Is : B → List T → Type 0} {items : List B} {x : B} {before mid now : List T} → TakesFrom Σ r s ds P Is before items mid → IsNextOf Σ c mid true → is_in Σ c ds ≡ true → TakesPart Σ s cs (Is x) mid now → may_follow Σ cs (many s) ds ≡ true → TakesFrom Σ r s ds P Is before (items ++ x ∷ []) now
  from_more {B} {r} {s} {c} {cs} {ds} {P} {Is} {items} {x} {before} {mid} {now} row n among next follows =
      let (a, b, parts, first, rest) = row.has in
      record {
        takes = λ k free.
            row.takes k free
            ∙ more_at Σ s k ds mid n.next n.rest n.is (fits_in Σ c ds n.next among n.fits) free
            ∙ next.takes (seq (many s) k) (free_rest Σ cs (many s) ds k follows free);
        used = row.used ++ next.used;
        is = row.is ∙ ap (λ u. row.used ++ u) next.is ∙ sym (append_assoc row.used next.used now);
        has = (a, b ++ next.used, ap (λ v. v ++ next.used) parts ∙ append_assoc a b next.used, first, row_last Is items x b next.used rest next.has);
      }

  -- .. one more that can't be read, ..
  pub from_fails : {B : Type 0} {r s : Re C} {c : C} {cs ds : List C} {P : List T → Type 0} {Is : B → List T → Type 0} {items : List B} {e : Or ℕ} {before mid : List T} → TakesFrom Σ r s ds P Is before items mid → IsNextOf Σ c mid true → is_in Σ c ds ≡ true → FailsPart Σ s cs mid e → may_follow Σ cs (many s) ds ≡ true → FailsPart Σ (seq r (many s)) ds before e
  from_fails {B} {r} {s} {c} {cs} {ds} {P} {Is} {items} {e} {before} {mid} row n among next follows = record {
    fails = λ place is. let f = next.fails place is in record {
      rest = f.rest;
      place_is = f.place_is;
      leaves = λ k free.
          row.takes k free
          ∙ more_at Σ s k ds mid n.next n.rest n.is (fits_in Σ c ds n.next among n.fits) free
          ∙ f.leaves (seq (many s) k) (free_rest Σ cs (many s) ds k follows free);
    };
  }

  -- .. and no more.
  pub from_done : {B : Type 0} {r s : Re C} {ds : List C} {P : List T → Type 0} {Is : B → List T → Type 0} {items : List B} {before now : List T} → TakesFrom Σ r s ds P Is before items now → IsOver Σ s now → TakesPart Σ (seq r (many s)) ds (P then AreInRow Is items) before now
  from_done {B} {r} {s} {ds} {P} {Is} {items} {before} {now} row (t, rest, is, never) = record {
    takes = λ k free. row.takes k free ∙ ended_at Σ s k now t rest is never;
    used = row.used;
    is = row.is;
    has = row.has;
  }

  -- What has a token leaves less than there was.
  pub takes_less : {r : Re C} {cs : List C} {P : List T → Type 0} {before now : List T} → ((u : List T) → P u → (t : T) × (v : List T) × (u ≡ t ∷ v)) → TakesPart Σ r cs P before now → length now < length before
  takes_less {r} {cs} {P} {before} {now} filled h =
      let (t, v, is) = filled h.used h.has in
      omega (arith, ap length h.is, length-append h.used now, ap length is)

-- Without memory nothing is said of what was read.
no_memory : {C T : Type 0} {Σ : Alphabet C T} {r : Re C} {cs : List C} {before : List T} {e : Or ℕ} → e ≡ NoMemory → FailsPart Σ r cs before e
no_memory {C} {T} {Σ} {r} {cs} {before} {e} same = record { fails = λ place is. absurd (never place (sym same ∙ is)) }
  where
    never : (place : ℕ) → NoMemory ≡ Fault place → ⊥
    never place is = cc

-- What was read next couldn't be, or there was no memory to join it.
pub joined_fails : {C T A : Type 0} (Σ : Alphabet C T) (r : Re C) (cs : List C) (Is : A → List T → Type 0) {before : List T} (now : List T) (result : Result A (Or ℕ)) {e : Or ℕ} → (e ≡ NoMemory) ⊎ (result ≡ Err e) → ReadsPart Σ r cs Is before result now → FailsPart Σ r cs before e
joined_fails Σ r cs Is now result (inl same) read = no_memory same
joined_fails {C} {T} {A} Σ r cs Is {before} now result (inr is) read = subst (λ (x : Result A (Or ℕ)). ReadsPart Σ r cs Is before x now) is read
