-- The fault that decides is the first by class and place, and where none decides none is there.
use Rattle.std.proofs.Common.{◌≡◌, ◌<◌, ◌≤◌, Bool, true, false, cond, List, [], ◌∷◌, ◌++◌, Option, Some, None, sym, ap, subst, refl, inl, inr, arith}
use Rattle.std.specs.Prelude.{◌⊎◌, All, fold, nat_lt}
use Rattle.std.proofs.lemmas.Bool.{ltb-true, ltb-false}
use Rattle.std.proofs.lemmas.List.Elements.{All-nil, All-cons}
use Rattle.std.proofs.lemmas.Option.{none-some, same_Some}
use Rattle.ql_refusals.specs.Refusals.{Refused}
use Rattle.ql_select.specs.declared.first_fault.Fault.{Fault}
use Rattle.ql_select.specs.declared.first_fault.FaultClass.{FaultClass}
use Rattle.ql_select.specs.FirstFaults.{IsFirstFault, fault_in, first_fault, rank, sooner}

-- ---- none

-- what was kept is never let go of for nothing
kept_stays : (faults : List Fault) (kept : Fault) → fold sooner (Some kept) faults ≡ None → ⊥
kept_stays [] kept e = none-some kept (sym e)
kept_stays (fault ∷ faults) kept e = kept_stays faults _ e

pub none_left : (faults : List Fault) → first_fault faults ≡ None → faults ≡ []
none_left [] e = refl
none_left (fault ∷ faults) e = absurd (kept_stays faults fault e)

head_of : List Fault → Option Fault
head_of [] = None
head_of (x ∷ xs) = Some x

-- where two lists together are empty, both are
pub both_nil : (xs ys : List Fault) → xs ++ ys ≡ [] → (xs ≡ []) × (ys ≡ [])
unfolding head_of
both_nil [] ys e = (refl, e)
both_nil (x ∷ xs) ys e = absurd (none-some x (sym (ap head_of e)))

pub fault_in_none : (class : FaultClass) (refusal : Option Refused) → fault_in class refusal ≡ [] → refusal ≡ None
unfolding head_of
fault_in_none class None e = refl
fault_in_none class (Some says) e = absurd (none-some _ (sym (ap head_of e)))

-- ---- the first

-- Of a fault and those after it one decides: it itself, which is of no later class than they, or one after it, of an earlier class.
abbrev Decides : Fault → List Fault → Fault → Type 0
Decides kept faults fault =
    ((kept ≡ fault) × All (λ other. rank fault.class ≤ rank other.class) faults)
    ⊎ ((rank fault.class < rank kept.class) × IsFirstFault faults fault)

later : (x : Fault) (xs : List Fault) (fault : Fault) → rank fault.class < rank x.class → IsFirstFault xs fault → IsFirstFault (x ∷ xs) fault
later x xs fault less first = record {
  before = x ∷ first.before;
  after = first.after;
  stands = ap (λ (list : List Fault). x ∷ list) first.stands;
  before_it = All-cons (λ other. rank fault.class < rank other.class) x first.before less first.before_it;
  after_it = first.after_it;
}

replaced : (kept x fault : Fault) (xs : List Fault) → rank x.class < rank kept.class → Decides x xs fault → Decides kept (x ∷ xs) fault
replaced kept x fault xs less (inl (same, all)) =
    let below : rank fault.class < rank kept.class = subst (λ (f : Fault). rank f.class < rank kept.class) same less in
    inr (
      below,
      record {
        before = [];
        after = xs;
        stands = ap (λ (f : Fault). f ∷ xs) same;
        before_it = All-nil (λ other. rank fault.class < rank other.class);
        after_it = all;
      },
    )
replaced kept x fault xs less (inr (below, first)) =
    let least : rank fault.class < rank kept.class = omega (arith, less, below) in
    inr (least, later x xs fault below first)

stays : (kept x fault : Fault) (xs : List Fault) → rank kept.class ≤ rank x.class → Decides kept xs fault → Decides kept (x ∷ xs) fault
stays kept x fault xs least (inl (same, all)) =
    inl (same, All-cons (λ other. rank fault.class ≤ rank other.class) x xs (subst (λ (f : Fault). rank f.class ≤ rank x.class) same least) all)
stays kept x fault xs least (inr (below, first)) =
    let less : rank fault.class < rank x.class = omega (arith, least, below) in
    inr (below, later x xs fault less first)

decides_by : (kept x fault : Fault) (xs : List Fault) (takes : Bool) → nat_lt (rank x.class) (rank kept.class) ≡ takes → ((one : Fault) → fold sooner (Some one) xs ≡ Some fault → Decides one xs fault) → fold sooner (Some (cond takes x kept)) xs ≡ Some fault → Decides kept (x ∷ xs) fault
decides_by kept x fault xs true less rest e = replaced kept x fault xs (ltb-true (rank x.class) (rank kept.class) less) (rest x e)
decides_by kept x fault xs false least rest e = stays kept x fault xs (ltb-false (rank x.class) (rank kept.class) least) (rest kept e)

decides : (faults : List Fault) (kept fault : Fault) → fold sooner (Some kept) faults ≡ Some fault → Decides kept faults fault
decides [] kept fault e = inl (same_Some kept fault e, All-nil (λ other. rank fault.class ≤ rank other.class))
decides (x ∷ xs) kept fault e = decides_by kept x fault xs (nat_lt (rank x.class) (rank kept.class)) refl (λ one gives. decides xs one fault gives) e

begins : (x : Fault) (xs : List Fault) (fault : Fault) → Decides x xs fault → IsFirstFault (x ∷ xs) fault
begins x xs fault (inl (same, all)) = record {
  before = [];
  after = xs;
  stands = ap (λ (f : Fault). f ∷ xs) same;
  before_it = All-nil (λ other. rank fault.class < rank other.class);
  after_it = all;
}
begins x xs fault (inr (below, first)) = later x xs fault below first

pub is_first : (faults : List Fault) (fault : Fault) → first_fault faults ≡ Some fault → IsFirstFault faults fault
is_first [] fault e = absurd (none-some fault e)
is_first (x ∷ xs) fault e = begins x xs fault (decides xs x fault e)
