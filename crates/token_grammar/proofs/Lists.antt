-- What readers make of parts in a list with separators, and of parts in a row.
use Rattle.std.proofs.Common.{◌≡◌, ℕ, List, [], ◌∷◌, ◌++◌, true, false, refl, sym, ◌∙◌, ap, subst, append_assoc, append-nil}
use Rattle.srch_base.specs.declared.faults.Or.{Or}
use Rattle.token_grammar.specs.Alphabets.{Alphabet}
use Rattle.token_grammar.specs.Language.{Re, one, seq, many, listed, repeated, In}
use Rattle.token_grammar.specs.Firsts.{fits_some, may_follow}
use Rattle.token_grammar.specs.steps.Deciding.{begun}
use Rattle.token_grammar.specs.Values.{AreListed, AreInRow}
use Rattle.token_grammar.specs.Reading.{TakesPart, FailsPart, IsNextOf}
use Rattle.token_grammar.specs.steps.Progress.{TakesListed, TakesRow}
use Rattle.token_grammar.proofs.Bools.{or_left, clash}
use Rattle.token_grammar.proofs.Beginnings.{begun_misses, free_none, free_rest}
use Rattle.token_grammar.proofs.Rows.{regroup}
use Rattle.token_grammar.proofs.Choices.{more_at, ended_at}

pub listed_last : {T A : Type 0} (S : List T → Type 0) (Is : A → List T → Type 0) (items : List A) (x : A) (u v w : List T) → AreListed S Is items u → S v → Is x w → AreListed S Is (items ++ x ∷ []) (u ++ (v ++ w))
listed_last S Is [] x u v w has between next = absurd has
listed_last S Is (y ∷ []) x u v w has between next = (u, v ++ w, refl, has, (v, w, refl, between, next))
listed_last S Is (y ∷ z ∷ items) x u v w (a, bc, is, first, (b, c, is', sep, rest)) between next =
    (a, b ++ (c ++ (v ++ w)), ap (λ t. t ++ (v ++ w)) (is ∙ ap (λ t. a ++ t) is') ∙ append_assoc a (b ++ c) (v ++ w) ∙ ap (λ t. a ++ t) (append_assoc b c (v ++ w)), first, (b, c ++ (v ++ w), refl, sep, listed_last S Is (z ∷ items) x c v w rest between next))

pub row_last : {T A : Type 0} (Is : A → List T → Type 0) (items : List A) (x : A) (u w : List T) → AreInRow Is items u → Is x w → AreInRow Is (items ++ x ∷ []) (u ++ w)
row_last Is [] x u w has next = (w, [], ap (λ v. v ++ w) has ∙ sym (append-nil w), next, refl)
row_last Is (y ∷ items) x u w (a, b, is, first, rest) next =
    (a, b ++ w, ap (λ v. v ++ w) is ∙ append_assoc a b w, first, row_last Is items x b w rest next)

module _ {C T : Type 0} (Σ : Alphabet C T) where
  -- .. and no more.
  separator_no : (c : C) (r : Re C) (t : T) → Σ.fits c t ≡ false → (u : List T) → In Σ (seq (one c) r) (t ∷ u) → ⊥
  unfolding In
  separator_no c r t e u (a, b, is, (x, is', f), second) =
      let same : x ≡ t = cc in
      clash (Σ.fits c t) (subst (λ (y : T). Σ.fits c y ≡ true) same f) e

module _ {C T : Type 0} {Σ : Alphabet C T} where
  -- One part of a list with separators ..
  pub listed_one : {A : Type 0} {c : C} {S : List T → Type 0} {r : Re C} {cs : List C} {Is : A → List T → Type 0} {x : A} {before now : List T} → TakesPart Σ r cs (Is x) before now → may_follow Σ cs (repeated c r) (c ∷ cs) ≡ true → TakesListed Σ c S r (c ∷ cs) Is before (x ∷ []) now
  listed_one {A} {c} {S} {r} {cs} {Is} {x} {before} {now} h follows = record {
    takes = λ rest free. regroup Σ r (repeated c r) rest before ∙ h.takes (seq (repeated c r) rest) (free_rest Σ cs (repeated c r) (c ∷ cs) rest follows free);
    used = h.used;
    is = h.is;
    has = h.has;
  }

  -- .. one more, after a separator, ..
  pub listed_more : {A : Type 0} {c : C} {S : List T → Type 0} {r : Re C} {cs : List C} {Is : A → List T → Type 0} {items : List A} {x : A} {before mid there now : List T} → TakesListed Σ c S r (c ∷ cs) Is before items mid → TakesPart Σ (one c) [] S mid there → IsNextOf Σ c mid true → TakesPart Σ r cs (Is x) there now → may_follow Σ cs (repeated c r) (c ∷ cs) ≡ true → TakesListed Σ c S r (c ∷ cs) Is before (items ++ x ∷ []) now
  listed_more {A} {c} {S} {r} {cs} {Is} {items} {x} {before} {mid} {there} {now} list between n next follows = record {
    takes = λ rest free.
        list.takes rest free
        ∙ more_at Σ (seq (one c) r) rest (c ∷ cs) mid n.next n.rest n.is (or_left (Σ.fits c n.next) (fits_some Σ cs n.next) n.fits) free
        ∙ regroup Σ (one c) r (seq (repeated c r) rest) mid
        ∙ between.takes (seq r (seq (repeated c r) rest)) (free_none Σ (seq r (seq (repeated c r) rest)))
        ∙ next.takes (seq (repeated c r) rest) (free_rest Σ cs (repeated c r) (c ∷ cs) rest follows free);
    used = list.used ++ (between.used ++ next.used);
    is = list.is ∙ ap (λ u. list.used ++ u) (between.is ∙ ap (λ u. between.used ++ u) next.is ∙ sym (append_assoc between.used next.used now)) ∙ sym (append_assoc list.used (between.used ++ next.used) now);
    has = listed_last S Is items x list.used between.used next.used list.has between.has next.has;
  }

  -- .. a separator and no further part after it, ..
  pub listed_fails : {A : Type 0} {c : C} {S : List T → Type 0} {r : Re C} {cs : List C} {Is : A → List T → Type 0} {items : List A} {e : Or ℕ} {before mid there : List T} → TakesListed Σ c S r (c ∷ cs) Is before items mid → TakesPart Σ (one c) [] S mid there → IsNextOf Σ c mid true → FailsPart Σ r cs there e → may_follow Σ cs (repeated c r) (c ∷ cs) ≡ true → FailsPart Σ (listed c r) (c ∷ cs) before e
  listed_fails {A} {c} {S} {r} {cs} {Is} {items} {e} {before} {mid} {there} list between n next follows = record {
    fails = λ place is. let f = next.fails place is in record {
      rest = f.rest;
      place_is = f.place_is;
      leaves = λ rest free.
          list.takes rest free
          ∙ more_at Σ (seq (one c) r) rest (c ∷ cs) mid n.next n.rest n.is (or_left (Σ.fits c n.next) (fits_some Σ cs n.next) n.fits) free
          ∙ regroup Σ (one c) r (seq (repeated c r) rest) mid
          ∙ between.takes (seq r (seq (repeated c r) rest)) (free_none Σ (seq r (seq (repeated c r) rest)))
          ∙ f.leaves (seq (repeated c r) rest) (free_rest Σ cs (repeated c r) (c ∷ cs) rest follows free);
    };
  }

  pub listed_done : {A : Type 0} {c : C} {S : List T → Type 0} {r : Re C} {cs : List C} {Is : A → List T → Type 0} {items : List A} {before now : List T} → TakesListed Σ c S r (c ∷ cs) Is before items now → IsNextOf Σ c now false → TakesPart Σ (listed c r) (c ∷ cs) (AreListed S Is items) before now
  listed_done {A} {c} {S} {r} {cs} {Is} {items} {before} {now} list n = record {
    takes = λ rest free. list.takes rest free ∙ ended_at Σ (seq (one c) r) rest now n.next n.rest n.is (separator_no Σ c r n.next n.fits);
    used = list.used;
    is = list.is;
    has = list.has;
  }

  -- No part of a row ..
  pub row_none : {A : Type 0} {r : Re C} {cs : List C} {Is : A → List T → Type 0} {before : List T} → TakesRow Σ r cs Is before [] before
  row_none = record { takes = λ rest free. refl; used = []; is = refl; has = refl }

  -- .. one more, ..
  pub row_more : {A : Type 0} {r : Re C} {c : C} {cs : List C} {Is : A → List T → Type 0} {items : List A} {x : A} {before mid now : List T} → TakesRow Σ r (c ∷ cs) Is before items mid → IsNextOf Σ c mid true → TakesPart Σ r cs (Is x) mid now → may_follow Σ cs (many r) (c ∷ cs) ≡ true → TakesRow Σ r (c ∷ cs) Is before (items ++ x ∷ []) now
  row_more {A} {r} {c} {cs} {Is} {items} {x} {before} {mid} {now} row n next follows = record {
    takes = λ rest free.
        row.takes rest free
        ∙ more_at Σ r rest (c ∷ cs) mid n.next n.rest n.is (or_left (Σ.fits c n.next) (fits_some Σ cs n.next) n.fits) free
        ∙ next.takes (seq (many r) rest) (free_rest Σ cs (many r) (c ∷ cs) rest follows free);
    used = row.used ++ next.used;
    is = row.is ∙ ap (λ u. row.used ++ u) next.is ∙ sym (append_assoc row.used next.used now);
    has = row_last Is items x row.used next.used row.has next.has;
  }

  -- .. one more that can't be read, ..
  pub row_fails : {A : Type 0} {r : Re C} {c : C} {cs : List C} {Is : A → List T → Type 0} {items : List A} {e : Or ℕ} {before mid : List T} → TakesRow Σ r (c ∷ cs) Is before items mid → IsNextOf Σ c mid true → FailsPart Σ r cs mid e → may_follow Σ cs (many r) (c ∷ cs) ≡ true → FailsPart Σ (many r) (c ∷ cs) before e
  row_fails {A} {r} {c} {cs} {Is} {items} {e} {before} {mid} row n next follows = record {
    fails = λ place is. let f = next.fails place is in record {
      rest = f.rest;
      place_is = f.place_is;
      leaves = λ rest free.
          row.takes rest free
          ∙ more_at Σ r rest (c ∷ cs) mid n.next n.rest n.is (or_left (Σ.fits c n.next) (fits_some Σ cs n.next) n.fits) free
          ∙ f.leaves (seq (many r) rest) (free_rest Σ cs (many r) (c ∷ cs) rest follows free);
    };
  }

  -- .. and no more.
  pub row_done : {A : Type 0} {r : Re C} {c : C} {cs : List C} {Is : A → List T → Type 0} {items : List A} {before now : List T} → TakesRow Σ r (c ∷ cs) Is before items now → IsNextOf Σ c now false → begun Σ c r ≡ true → TakesPart Σ (many r) (c ∷ cs) (AreInRow Is items) before now
  row_done {A} {r} {c} {cs} {Is} {items} {before} {now} row n e = record {
    takes = λ rest free. row.takes rest free ∙ ended_at Σ r rest now n.next n.rest n.is (begun_misses Σ c r n.next e n.fits).1;
    used = row.used;
    is = row.is;
    has = row.has;
  }
