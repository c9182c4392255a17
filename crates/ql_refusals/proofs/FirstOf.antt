-- The first fault of the elements of a list, as `find_map` finds it.
use Rattle.std.proofs.Common.{◌≡◌, ℕ, suc, ◌+◌, ◌<◌, true, List, [], ◌∷◌, map, Option, Some, None, IsTrue, sym, ◌∙◌, ap, subst, refl}
use Rattle.std.specs.Prelude.{slice_get}
use Rattle.std.specs.Fn.{Called}
use Rattle.std.specs.Iterator.{AlwaysYields, Yields, DrainsIf, FindsMapped}
use Rattle.std.specs.Iterator.Runs.{Run, SomeRun, YieldsRun, AllItemsGive, IsFirstToGive}
use Rattle.std.specs.List.{FoldsTo}
use Rattle.std.specs.Option.{MatchOption, IfSome}
use Rattle.std.proofs.lemmas.Iterator.{YieldsList, items_from_drains}
use Rattle.std.proofs.lemmas.Option.{none-some}
use denote.Param.Members.{Mut}
use Rattle.ql_refusals.specs.Refusals.{Refused, first, first_of}

-- what a run keeps shut: its items, and each by its place
opened : {S A : Type 0} {steps : S → Option A → S → Type 0} (p : Run steps) → DrainsIf steps (p.whole ≡ true) p.from p.items × ((k : ℕ) → p.at k ≡ slice_get p.items k)
unfolding YieldsRun
opened p = p.gave

module _ {S A B F : Type 0} (steps : S → Option A → S → Type 0) (v : A → B) (g : Mut F (A × Unit {0}) (Option Refused)) (fault : B → Option Refused) (f : F) (answers : (x : A) (r : Option Refused) (q : F) → Called g f (x, tt) r q → (q ≡ f) × (r ≡ fault (v x))) where
  -- the call at which it stopped answered the first fault
  stops : (last : Option A) (all : List B) (s u : S) (now : F) (refusal : Refused) → now ≡ f → AlwaysYields steps v s all → steps s last u → MatchOption last (Some refusal ≡ None) (λ x. (h : F) × Called g now (x, tt) (Some refusal) h) → Some refusal ≡ first_of fault all
  stops None all s u now refusal same yields step none = absurd (none-some refusal (sym none))
  stops (Some x) [] s u now refusal same yields step called = absurd (yields x u step)
  stops (Some x) (y ∷ ys) s u now refusal same yields step called =
      let answer = answers x (Some refusal) called.0 (subst (λ (c : F). Called g c (x, tt) (Some refusal) called.0) same called.1) in
      ap (λ found. first found (first_of fault ys)) (answer.1 ∙ ap fault (yields.1 x u step).0)

  goes : (xs : List A) (last : Option A) (all : List B) (s t u : S) (from now : F) (refusal : Refused) → from ≡ f → AlwaysYields steps v s all → Yields steps s xs t → steps t last u → FoldsTo (λ p x q. Called g p (x, tt) None q) from xs now → MatchOption last (Some refusal ≡ None) (λ x. (h : F) × Called g now (x, tt) (Some refusal) h) → Some refusal ≡ first_of fault all
  goes [] last all s t u from now refusal same yields along step folds end =
      stops last all s u now refusal (sym folds ∙ same) yields (subst (λ (j : S). steps j last u) (sym along) step) end
  goes (x ∷ xs) last [] s t u from now refusal same yields along step folds end = absurd (yields x along.0 along.1)
  goes (x ∷ xs) last (y ∷ ys) s t u from now refusal same yields along step folds end =
      let next = yields.1 x along.0 along.1 in
      let answer = answers x None folds.0 (subst (λ (c : F). Called g c (x, tt) None folds.0) same folds.1) in
      goes xs last ys along.0 t u folds.0 now refusal answer.0 next.1 along.2 step folds.2 end
      ∙ ap (λ found. first found (first_of fault ys)) (answer.1 ∙ ap fault next.0)

  none_of : (xs : List A) → ((k : ℕ) → IfSome (slice_get xs k) (λ x. None ≡ fault (v x))) → None ≡ first_of fault (map v xs)
  none_of [] none = refl
  none_of (x ∷ xs) none = none_of xs (λ k. none (suc k)) ∙ ap (λ found. first found (first_of fault (map v xs))) (none 0)

  none_at : (o : Option A) → IfSome o (λ x. Called g f (x, tt) None f) → IfSome o (λ x. None ≡ fault (v x))
  none_at None called = tt
  none_at (Some x) called = (answers x None f called).1

  -- where it went on to the end, no element has a fault
  ends : (s : S) (all : List B) → YieldsList steps v s all → (p : Run steps) → p.from ≡ s → p.whole ≡ true → AllItemsGive p g f None → None ≡ first_of fault all
  ends s all yields p from whole gives =
      let run = opened p in
      let drains : DrainsIf steps (Unit {0}) p.from p.items = (run.0.0, run.0.1, λ _. run.0.2 whole) in
      let none : (k : ℕ) → IfSome (p.at k) (λ x. None ≡ fault (v x)) = λ k. none_at (p.at k) (gives (λ a r q k. (answers a.0 r q k).0) k) in
      none_of p.items (λ k. subst (λ (o : Option A). IfSome o (λ x. None ≡ fault (v x))) (run.1 k) (none k))
      ∙ ap (first_of fault) (items_from_drains p.items (subst (λ (j : S). DrainsIf steps (Unit {0}) j p.items) from drains) yields)

pub find_map_is_first_of : {S A B F : Type 0} {steps : S → Option A → S → Type 0} {v : A → B} {g : Mut F (A × Unit {0}) (Option Refused)} {s : S} {all : List B} (fault : B → Option Refused) (u : S) (f : F) (r : Option Refused) → FindsMapped steps g s f r u → SomeRun steps s (λ p. MatchOption r (IsTrue p.whole × AllItemsGive p g f None) (λ y. (i : ℕ) × (i < p.len) × (p.len ≡ i + 1) × IsFirstToGive p g f (Some y) None i)) → YieldsList steps v s all → ((x : A) (r : Option Refused) (q : F) → Called g f (x, tt) r q → (q ≡ f) × (r ≡ fault (v x))) → r ≡ first_of fault all
find_map_is_first_of {steps = steps} {v = v} {g = g} {s = s} {all = all} fault u f None ran runs yields answers =
    ends steps v g fault f answers s all yields runs.0 runs.1 runs.2.0 runs.2.1
find_map_is_first_of {steps = steps} {v = v} {g = g} {s = s} {all = all} fault u f (Some refusal) ran runs yields answers =
    goes steps v g fault f answers ran.0 ran.1 all s ran.3.0 u f ran.2 refusal refl yields.runs ran.3.1 ran.3.2 ran.4 ran.5
