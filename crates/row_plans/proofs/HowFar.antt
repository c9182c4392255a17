-- How far the next row is, by the kinds of plans.
use Rattle.std.proofs.Common.{arith, ◌≡◌, ◌≤◌, ◌<◌, ◌+◌, refl, sym, ap, ◌∙◌, subst, ℕ, Bool, true, false, List, [], ◌∷◌, length, get_or, take, inl, inr}
use Rattle.std.specs.Prelude.{◌&&◌, ◌||◌, map, Option, min}
use Rattle.std.specs.List.{list_all, list_any, count_by}
use Rattle.std.proofs.lemmas.Bool.{cases_lt, lt-leb, le-leb}
use Rattle.std.proofs.lemmas.List.Folds.{list_all_more, list_any_more, list_all_at, list_any_at}
use Rattle.std.proofs.lemmas.List.Sums.{count_by_more_yes, count_by_more_no}
use Rattle.doc_types.specs.declared.cursor.Cursor.{Cursor}
use Rattle.row_plans.specs.declared.plan.Plan.{Plan}
use Rattle.row_plans.specs.declared.plan.Plan.TheVariants as plans
use Rattle.row_plans.specs.declared.plan.Plan.TheVariants.{rolls-Word, rolls-All, rolls-Any, rolls-Enough}
use Rattle.row_plans.specs.declared.plan.Plan.TheOpen.{Plan-F}
use Rattle.row_plans.specs.declared.plan.Plan.TheFolds.{fold-roll-Plan}
use Rattle.doc_types.specs.Chunks.{CursorPlace}
use Rattle.row_plans.specs.Cursors.{Agree, has_at}
use Rattle.row_plans.specs.Plans.{holds, holds_some, plan_step, IsBound}
use Rattle.row_plans.specs.steps.Tallies.{IsTally}
use Rattle.row_plans.proofs.Kept.{agree_same}

-- ---- plans

module _ (has : ℕ → Bool) where
  pub holds_word : (number : ℕ) → holds has (plans.Word number) ≡ has number
  unfolding holds
  holds_word number = ap (holds has) (sym (rolls-Word number)) ∙ fold-roll-Plan Bool (plan_step has) (Plan-F.Word number)

  all_are : (parts : List Plan) → list_all (λ p. p) (map (holds has) parts) ≡ list_all (holds has) parts
  all_are [] = refl
  all_are (part ∷ parts) = ap (λ b. holds has part && b) (all_are parts)

  any_are : (parts : List Plan) → list_any (λ p. p) (map (holds has) parts) ≡ list_any (holds has) parts
  any_are [] = refl
  any_are (part ∷ parts) = ap (λ b. holds has part || b) (any_are parts)

  pub holds_all : (parts : List Plan) → holds has (plans.All parts) ≡ list_all (holds has) parts
  unfolding holds
  holds_all parts = ap (holds has) (sym (rolls-All parts)) ∙ fold-roll-Plan Bool (plan_step has) (Plan-F.All parts) ∙ all_are parts

  pub holds_any : (parts : List Plan) → holds has (plans.Any parts) ≡ list_any (holds has) parts
  unfolding holds
  holds_any parts = ap (holds has) (sym (rolls-Any parts)) ∙ fold-roll-Plan Bool (plan_step has) (Plan-F.Any parts) ∙ any_are parts

  pub holds_enough : (least : ℕ) (words : List ℕ) → holds has (plans.Enough least words) ≡ holds_some least words has
  unfolding holds
  holds_enough least words = ap (holds has) (sym (rolls-Enough least words)) ∙ fold-roll-Plan Bool (plan_step has) (Plan-F.Enough least words)

-- ---- bounds

-- what is wanted, said in another way
pub bound_as : (p q : ℕ → Bool) (from far : ℕ) → ((row : ℕ) → p row ≡ q row) → IsBound q from far → IsBound p from far
bound_as p q from far is b = record { on = b.on; none = λ row l r. is row ∙ b.none row l r; stands = λ e l. is from ∙ b.stands e l }

-- the cursors as they were before
module _ (belongs : Cursor → Type 0) (place : Cursor → CursorPlace) where
  pub bound_before : (wanted : (ℕ → Bool) → Bool) (from far : ℕ) (old new : List (Option Cursor)) → Agree belongs place from old new → IsBound (λ row. wanted (has_at place new row)) from far → IsBound (λ row. wanted (has_at place old row)) from far
  bound_before wanted from far old new a b = record {
    on = b.on;
    none = λ row l r. ap wanted (sym (agree_same belongs place from row old new l a)) ∙ b.none row l r;
    stands = λ e l. ap wanted (sym (agree_same belongs place from from old new (omega arith) a)) ∙ b.stands e l;
  }

  -- a leap
  pub leapt : (wanted : (ℕ → Bool) → Bool) (from at far : ℕ) (old mid : List (Option Cursor)) → from ≤ at → Agree belongs place at old mid
      → ((row : ℕ) → from ≤ row → row < at → wanted (has_at place old row) ≡ false) → IsBound (λ row. wanted (has_at place mid row)) at far
      → (row : ℕ) → from ≤ row → row < far → wanted (has_at place old row) ≡ false
  leapt wanted from at far old mid l a none b row m r = elim (cases_lt row at) [
    | inl before ↦ none row m before
    | inr after ↦ ap wanted (sym (agree_same belongs place at row old mid after a)) ∙ b.none row after r
  ]

  pub tally_before : (words : List ℕ) (from at count later : ℕ) (old new : List (Option Cursor)) → from ≤ at → Agree belongs place from old new → IsTally (has_at place new) words from at count later → IsTally (has_at place old) words from at count later
  tally_before words from at count later old new l a t = record {
    on = t.on;
    most = λ row m r. subst (λ (has : ℕ → Bool). count_by has words ≤ count) (agree_same belongs place from row old new (omega arith) a) (t.most row m r);
    exact = λ e. t.exact e ∙ ap (λ (has : ℕ → Bool). count_by has words) (agree_same belongs place from from old new (omega arith) a);
  }

  -- ---- kinds of plans
  module _ (old : List (Option Cursor)) (from far : ℕ) (plan : Plan) where
    pub word_bound : (number : ℕ) → plan ≡ plans.Word number → IsBound (λ row. has_at place old row number) from far → IsBound (λ row. holds (has_at place old row) plan) from far
    word_bound number e = bound_as (λ row. holds (has_at place old row) plan) (λ row. has_at place old row number) from far (λ row. ap (holds (has_at place old row)) e ∙ holds_word (has_at place old row) number)

    pub all_bound : (parts given : List Plan) → plan ≡ plans.All parts → given ≡ parts → IsBound (λ row. list_all (holds (has_at place old row)) given) from far → IsBound (λ row. holds (has_at place old row) plan) from far
    all_bound parts given e is = bound_as (λ row. holds (has_at place old row) plan) (λ row. list_all (holds (has_at place old row)) given) from far
        (λ row. ap (holds (has_at place old row)) e ∙ holds_all (has_at place old row) parts ∙ ap (list_all (holds (has_at place old row))) (sym is))

    pub any_bound : (parts given : List Plan) → plan ≡ plans.Any parts → given ≡ parts → IsBound (λ row. list_any (holds (has_at place old row)) given) from far → IsBound (λ row. holds (has_at place old row) plan) from far
    any_bound parts given e is = bound_as (λ row. holds (has_at place old row) plan) (λ row. list_any (holds (has_at place old row)) given) from far
        (λ row. ap (holds (has_at place old row)) e ∙ holds_any (has_at place old row) parts ∙ ap (list_any (holds (has_at place old row))) (sym is))

    pub enough_bound : (least : ℕ) (words given : List ℕ) → plan ≡ plans.Enough least words → given ≡ words → IsBound (λ row. holds_some least given (has_at place old row)) from far → IsBound (λ row. holds (has_at place old row) plan) from far
    enough_bound least words given e is = bound_as (λ row. holds (has_at place old row) plan) (λ row. holds_some least given (has_at place old row)) from far
        (λ row. ap (holds (has_at place old row)) e ∙ holds_enough (has_at place old row) least words ∙ ap (λ (some : List ℕ). holds_some least some (has_at place old row)) (sym is))

  -- ---- parts of a plan: one more
  module _ (parts : List Plan) (old mid : List (Option Cursor)) (from far at : ℕ) (part : Plan) (within : at < length parts) (is : part ≡ get_or parts at part)
      (a : Agree belongs place from old mid) (b : IsBound (λ row. holds (has_at place mid row) part) from far) where
    part_bound : IsBound (λ row. holds (has_at place old row) (get_or parts at part)) from far
    part_bound = subst (λ (p : Plan). IsBound (λ row. holds (has_at place old row) p) from far) is (bound_before (λ has. holds has part) from far old mid a b)

    pub all_ends : from < far → IsBound (λ row. list_all (holds (has_at place old row)) parts) from far
    all_ends l = record {
      on = omega arith;
      none = λ row m r. list_all_at (holds (has_at place old row)) parts at part within (part_bound.none row m r);
      stands = λ e s. absurd (omega arith);
    }

    pub all_more : far ≡ from → (from < 4294967295 → list_all (holds (has_at place old from)) (take at parts) ≡ true) → from < 4294967295 → list_all (holds (has_at place old from)) (take (at + 1) parts) ≡ true
    all_more e so l = list_all_more (holds (has_at place old from)) parts at part within ∙ ap (λ t. t && holds (has_at place old from) (get_or parts at part)) (so l) ∙ part_bound.stands e l

    pub any_ends : far ≡ from → IsBound (λ row. list_any (holds (has_at place old row)) parts) from from
    any_ends e = record {
      on = omega arith;
      none = λ row m r. absurd (omega arith);
      stands = λ same l. list_any_at (holds (has_at place old from)) parts at part within (part_bound.stands e l);
    }

    pub any_more : (least next : ℕ) → next ≤ least → next ≤ far → ((row : ℕ) → from ≤ row → row < least → list_any (holds (has_at place old row)) (take at parts) ≡ false)
        → (row : ℕ) → from ≤ row → row < next → list_any (holds (has_at place old row)) (take (at + 1) parts) ≡ false
    any_more least next le lf so row m r = list_any_more (holds (has_at place old row)) parts at part within
        ∙ ap (λ t. t || holds (has_at place old row) (get_or parts at part)) (so row m (omega arith)) ∙ part_bound.none row m (omega arith)

-- ---- so many words

module _ (has : ℕ → ℕ → Bool) (words : List ℕ) (d from at far i : ℕ) (within : i < length words)
    (b : IsBound (λ row. has row (get_or words i d)) from far) (below : at < 4294967295) (from_at : from ≤ at) where
  at_most : (row : ℕ) (t : Bool) → has row (get_or words i d) ≡ t → count_by (has row) (take (i + 1) words) ≤ count_by (has row) (take i words) + 1
  at_most row true e = omega (arith, count_by_more_yes (has row) words i d within e)
  at_most row false e = omega (arith, count_by_more_no (has row) words i d within e)

  pub tally_here : (count later : ℕ) → far ≤ at → IsTally has (take i words) from at count later → IsTally has (take (i + 1) words) from at (count + 1) later
  tally_here count later l t = record {
    on = t.on;
    most = λ row m r. omega (arith, at_most row _ refl, t.most row m r);
    exact = λ e. omega (arith, t.exact e, count_by_more_yes (has from) words i d within (b.stands (omega (arith, b.on)) (omega arith)));
  }

  pub tally_later : (count later next : ℕ) → at < far → next ≤ later → next ≤ far → at < next → IsTally has (take i words) from at count later → IsTally has (take (i + 1) words) from at count next
  tally_later count later next l le lf on t = record {
    on = on;
    most = λ row m r. omega (arith, t.most row m (omega arith), count_by_more_no (has row) words i d within (b.none row (omega arith) (omega arith)));
    exact = λ e. omega (arith, t.exact e, count_by_more_no (has from) words i d within (b.none from (omega arith) (omega arith)));
  }

-- a loop that rises
pub rose : (least : ℕ) (words : List ℕ) (has : ℕ → ℕ → Bool) (from at count later : ℕ) → IsTally has words from at count later → count < least
    → ((row : ℕ) → from ≤ row → row < at → holds_some least words (has row) ≡ false) → (row : ℕ) → from ≤ row → row < later → holds_some least words (has row) ≡ false
rose least words has from at count later t l none row m r = elim (cases_lt row at) [
  | inl before ↦ none row m before
  | inr after ↦ lt-leb least (count_by (has row) words) (omega (arith, t.most row after r))
]

pub stopped : (least : ℕ) (words : List ℕ) (has : ℕ → ℕ → Bool) (from at count later : ℕ) → from ≤ at → IsTally has words from at count later → least ≤ count
    → ((row : ℕ) → from ≤ row → row < at → holds_some least words (has row) ≡ false) → IsBound (λ row. holds_some least words (has row)) from at
stopped least words has from at count later on t l none = record { on = on; none = none; stands = λ e s. le-leb least (count_by (has from) words) (omega (arith, t.exact e)) }

module _ (belongs : Cursor → Type 0) (place : Cursor → CursorPlace) (words : List ℕ) (d from at far i : ℕ) (old mid : List (Option Cursor)) (within : i < length words) (a : Agree belongs place from old mid)
    (b : IsBound (λ row. has_at place mid row (get_or words i d)) from far) (below : at < 4294967295) (from_at : from ≤ at) where
  before : IsBound (λ row. has_at place old row (get_or words i d)) from far
  before = bound_before belongs place (λ has. has (get_or words i d)) from far old mid a b

  pub told_here : (count later count' later' : ℕ) → far ≤ at → count' ≡ count + 1 → later' ≡ later → IsTally (has_at place old) (take i words) from at count later → IsTally (has_at place old) (take (i + 1) words) from at count' later'
  told_here count later count' later' l e f t =
      subst (λ (n : ℕ). IsTally (has_at place old) (take (i + 1) words) from at n later') (sym e) (subst (λ (n : ℕ). IsTally (has_at place old) (take (i + 1) words) from at (count + 1) n) (sym f) (tally_here (has_at place old) words d from at far i within before below from_at count later l t))

  pub told_later : (count later count' later' : ℕ) → at < far → count' ≡ count → later' ≡ min later far → IsTally (has_at place old) (take i words) from at count later → IsTally (has_at place old) (take (i + 1) words) from at count' later'
  told_later count later count' later' l e f t =
      subst (λ (n : ℕ). IsTally (has_at place old) (take (i + 1) words) from at n later') (sym e) (tally_later (has_at place old) words d from at far i within before below from_at count later later' l (omega (arith, f)) (omega (arith, f)) (omega (arith, f, t.on)) t)
