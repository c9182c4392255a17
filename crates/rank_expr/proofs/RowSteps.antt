-- What readers make of a part and then of more parts in a row.
use Rattle.std.proofs.Common.{◌≡◌, ◌⊎◌, ℕ, List, [], ◌∷◌, ◌++◌, true, false, inl, inr, refl, sym, ◌∙◌, ap, subst, append_assoc, append-nil}
use Rattle.std.specs.Prelude.{Result, Err}
use Rattle.srch_base.specs.declared.faults.Or.{Or}
use Rattle.srch_base.specs.declared.faults.Or.TheVariants.{NoMemory, Fault}
use Rattle.token_grammar.specs.Alphabets.{Alphabet}
use Rattle.token_grammar.specs.Language.{Re, seq, alt, many, In, verdict}
use Rattle.token_grammar.specs.Firsts.{is_in, IsFree, may_follow}
use Rattle.token_grammar.specs.steps.Deciding.{begun}
use Rattle.token_grammar.specs.Values.{◌then◌, AreInRow}
use Rattle.token_grammar.specs.Reading.{TakesPart, FailsPart, ReadsPart, IsNextOf}
use Rattle.token_grammar.proofs.Beginnings.{begun_misses, fits_in, free_rest}
use Rattle.token_grammar.proofs.Rows.{regroup}
use Rattle.token_grammar.proofs.Choices.{more_at, ended_at}
use Rattle.token_grammar.proofs.Lists.{row_last}

-- No text of the part begins with the next token.
abbrev pub IsOver : {C T : Type 0} → Alphabet C T → Re C → List T → Type 0
IsOver {T = T} Σ r before = (t : T) × (rest : List T) × (before ≡ t ∷ rest) × ((u : List T) → In Σ r (t ∷ u) → ⊥)

-- The part r has been read, and then these values of s in a row; others may follow.
pub record TakesFrom {C T B : Type 0} (Σ : Alphabet C T) (r s : Re C) (goes_on : List C) (P : List T → Type 0) (Is : B → List T → Type 0) (before : List T) (items : List B) (now : List T) : Type 0 where
  pub takes : (rest : Re C) → IsFree Σ goes_on rest → verdict Σ (seq (seq r (many s)) rest) before ≡ verdict Σ (seq (many s) rest) now
  pub used : List T
  pub is : before ≡ used ++ now
  pub has : (P then AreInRow Is items) used

module _ {C T : Type 0} (Σ : Alphabet C T) where
  pub over_either : (r s : Re C) {before : List T} → IsOver Σ r before → IsOver Σ s before → IsOver Σ (alt r s) before
  unfolding In
  over_either r s {before} (t, rest, is, never) (t', rest', is', never') = (t, rest, is, λ u h. go u h)
    where
      go : (u : List T) → In Σ (alt r s) (t ∷ u) → ⊥
      go u (inl h) = never u h
      go u (inr h) =
          let same : t ≡ t' = cc (is, is') in
          never' u (subst (λ (y : T). In Σ s (y ∷ u)) same h)

  -- what the next token says
  pub over_else : (r : Re C) {c : C} {before : List T} → IsNextOf Σ c before false → begun Σ c r ≡ true → IsOver Σ r before
  over_else r {c} {before} n e = (n.next, n.rest, n.is, (begun_misses Σ c r n.next e n.fits).1)

module _ {C T : Type 0} {Σ : Alphabet C T} where
  -- The first part ..
  pub from_first : {B : Type 0} {r s : Re C} {cs ds : List C} {P : List T → Type 0} {Is : B → List T → Type 0} {before now : List T} → TakesPart Σ r cs P before now → may_follow Σ cs (many s) ds ≡ true → TakesFrom Σ r s ds P Is before [] now
  from_first {B} {r} {s} {cs} {ds} {P} {Is} {before} {now} h follows = record {
    takes = λ rest free. regroup Σ r (many s) rest before ∙ h.takes (seq (many s) rest) (free_rest Σ cs (many s) ds rest follows free);
    used = h.used;
    is = h.is;
    has = (h.used, [], sym (append-nil h.used), h.has, refl);
  }

  -- .. one more part, ..
  pub from_more : {B : Type 0} {r s : Re C} {c : C} {cs ds : List C} {P : List T → Type 0} {Is : B → List T → Type 0} {items : List B} {x : B} {before mid now : List T} → TakesFrom Σ r s ds P Is before items mid → IsNextOf Σ c mid true → is_in Σ c ds ≡ true → TakesPart Σ s cs (Is x) mid now → may_follow Σ cs (many s) ds ≡ true → TakesFrom Σ r s ds P Is before (items ++ x ∷ []) now
  from_more {B} {r} {s} {c} {cs} {ds} {P} {Is} {items} {x} {before} {mid} {now} row n among next follows =
      let (a, b, parts, first, rest) = row.has in
      record {
        takes = λ k free.
            row.takes k free
            ∙ more_at Σ s k ds mid n.next n.rest n.is (fits_in Σ c ds n.next among n.fits) free
            ∙ next.takes (seq (many s) k) (free_rest Σ cs (many s) ds k follows free);
        used = row.used ++ next.used;
        is = row.is ∙ ap (λ u. row.used ++ u) next.is ∙ sym (append_assoc row.used next.used now);
        has = (a, b ++ next.used, ap (λ v. v ++ next.used) parts ∙ append_assoc a b next.used, first, row_last Is items x b next.used rest next.has);
      }

  -- .. one more that can't be read, ..
  pub from_fails : {B : Type 0} {r s : Re C} {c : C} {cs ds : List C} {P : List T → Type 0} {Is : B → List T → Type 0} {items : List B} {e : Or ℕ} {before mid : List T} → TakesFrom Σ r s ds P Is before items mid → IsNextOf Σ c mid true → is_in Σ c ds ≡ true → FailsPart Σ s cs mid e → may_follow Σ cs (many s) ds ≡ true → FailsPart Σ (seq r (many s)) ds before e
  from_fails {B} {r} {s} {c} {cs} {ds} {P} {Is} {items} {e} {before} {mid} row n among next follows = record {
    fails = λ place is. let f = next.fails place is in record {
      rest = f.rest;
      place_is = f.place_is;
      leaves = λ k free.
          row.takes k free
          ∙ more_at Σ s k ds mid n.next n.rest n.is (fits_in Σ c ds n.next among n.fits) free
          ∙ f.leaves (seq (many s) k) (free_rest Σ cs (many s) ds k follows free);
    };
  }

  -- .. and no more.
  pub from_done : {B : Type 0} {r s : Re C} {ds : List C} {P : List T → Type 0} {Is : B → List T → Type 0} {items : List B} {before now : List T} → TakesFrom Σ r s ds P Is before items now → IsOver Σ s now → TakesPart Σ (seq r (many s)) ds (P then AreInRow Is items) before now
  from_done {B} {r} {s} {ds} {P} {Is} {items} {before} {now} row (t, rest, is, never) = record {
    takes = λ k free. row.takes k free ∙ ended_at Σ s k now t rest is never;
    used = row.used;
    is = row.is;
    has = row.has;
  }

-- Without memory nothing is said of what was read.
pub no_memory : {C T : Type 0} {Σ : Alphabet C T} {r : Re C} {cs : List C} {before : List T} {e : Or ℕ} → e ≡ NoMemory → FailsPart Σ r cs before e
no_memory {C} {T} {Σ} {r} {cs} {before} {e} same = record { fails = λ place is. absurd (never place (sym same ∙ is)) }
  where
    never : (place : ℕ) → NoMemory ≡ Fault place → ⊥
    never place is = cc

-- What was read next couldn't be, or there was no memory to join it.
pub joined_fails : {C T A : Type 0} (Σ : Alphabet C T) (r : Re C) (cs : List C) (Is : A → List T → Type 0) {before : List T} (now : List T) (result : Result A (Or ℕ)) {e : Or ℕ} → (e ≡ NoMemory) ⊎ (result ≡ Err e) → ReadsPart Σ r cs Is before result now → FailsPart Σ r cs before e
joined_fails Σ r cs Is now result (inl same) read = no_memory same
joined_fails {C} {T} {A} Σ r cs Is {before} now result (inr is) read = subst (λ (x : Result A (Or ℕ)). ReadsPart Σ r cs Is before x now) is read
