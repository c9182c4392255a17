-- Rows that weigh no more than some weight and have ids from some one on.
use Rattle.std.proofs.Common.{◌≡◌, ℕ, ◌<◌, ◌≤◌, inl, inr, Bool, true, false, ◌&&◌, not, List, [], ◌∷◌, ◌++◌, All, pos, cond, refl, sym, ◌∙◌, ap, subst, arith}
use mathlib.Core.Bool.{true≢false}
use borrow.Author.Tests.{ltb-true}
use Rattle.std.specs.Ordering.{is_le, nat_cmp}
use Rattle.std.specs.declared.cmp.Ordering.TheVariants.{Less}
use Rattle.std.proofs.lemmas.Bool.{cases_eq}
use Rattle.std.proofs.lemmas.Bool.Decides.{nat_tests}
use Rattle.std.proofs.lemmas.Cmp.{nat_cmp_total, tied_itself}
use Rattle.std.proofs.lemmas.List.{append_assoc, append-nil}
use Rattle.std.proofs.lemmas.List.Elements.{All-head, All-tail}
use Rattle.std.proofs.lemmas.List.Sums.{sum_by-le-sum_by}
use Rattle.row_select.specs.Collecting.{Collection, count_not_after}
use Rattle.row_select.specs.Orders.{by_key, by_keys}
use Rattle.row_select.specs.Pages.{page_end}
use Rattle.row_select.specs.Sinks.{Collects, IsBeyond, NeedsNoneBeyond}
use Rattle.row_select.specs.declared.order.Order.{Order}
use Rattle.row_select.specs.declared.row.ColumnRef.{ColumnRef}
use Rattle.row_select.specs.declared.row.ColumnRef.TheVariants as columns
use Rattle.row_select.specs.declared.row.Row.{Row}
use Rattle.row_select.specs.steps.Collecting.{all_fall_behind, falls_behind}
use Rattle.row_select.proofs.Collected.{chain, left_out, not_after}
use Rattle.row_select.proofs.Lighter.{one_more, then_le, up_to}

is_less : (a b : ℕ) → a < b → nat_cmp a b ≡ Less
is_less a b low = grind (arith, nat_tests)

nat_up_to : (a b : ℕ) → a ≤ b → is_le (nat_cmp a b) ≡ true
nat_up_to a b small =
    elim (cases_eq a b) [
      | inl same ↦ subst (λ n. is_le (nat_cmp a n) ≡ true) same (ap is_le (tied_itself nat_cmp_total a))
      | inr differ ↦ ap is_le (is_less a b (omega (arith, small, differ)))
    ]

by_one_key : (column : ColumnRef) (descending : Bool) (foremost its : Row) → falls_behind (column, descending) ≡ true → IsBeyond foremost.weight foremost.id its → is_le (by_key (column, descending) foremost its) ≡ true
by_one_key columns.Id true foremost its none beyond = absurd (true≢false (sym none))
by_one_key columns.Id false foremost its none beyond = up_to foremost.id its.id beyond.on
by_one_key (columns.Attr place) descending foremost its none beyond = absurd (true≢false (sym none))
by_one_key columns.Weight true foremost its none beyond = up_to its.weight foremost.weight beyond.light
by_one_key columns.Weight false foremost its none beyond = absurd (true≢false (sym none))

both_hold : (here later : Bool) → (here && later) ≡ true → (here ≡ true) × (later ≡ true)
both_hold true later all = (refl, all)
both_hold false later all = absurd (true≢false (sym all))

-- by such keys the foremost of these rows comes after none of them
pub not_after_beyond : (keys : List (ColumnRef × Bool)) (foremost its : Row) → all_fall_behind keys ≡ true → IsBeyond foremost.weight foremost.id its → is_le (by_keys keys foremost its) ≡ true
not_after_beyond [] foremost its all beyond = nat_up_to foremost.id its.id beyond.on
not_after_beyond (key ∷ keys) foremost its all beyond =
    let both = both_hold (falls_behind key) (all_fall_behind keys) all in
    then_le (by_key key foremost its) (by_keys keys foremost its) (by_one_key key.0 key.1 foremost its both.0 beyond) (not_after_beyond keys foremost its both.1 beyond)

module _ (order : Order) (foremost : Row) (all : all_fall_behind order.keys ≡ true) where
  -- so no fewer rows don't come after another one of them
  pub beyond_behind : (end : ℕ) (kept : List Row) → end ≤ count_not_after order foremost kept → (its : Row) → IsBeyond foremost.weight foremost.id its → end ≤ count_not_after order its kept
  beyond_behind end kept behind its beyond =
      omega (
        arith,
        behind,
        sum_by-le-sum_by (λ other. cond (not_after order other foremost) 1 0) (λ other. cond (not_after order other its) 1 0) kept
            (λ other. one_more (not_after order other foremost) (not_after order other its) (λ is. chain order other foremost its is (not_after_beyond order.keys foremost its all beyond))),
      )

-- a collector takes rows that it doesn't need by staying as it is
pub counted : (most from : ℕ) (first last : Collection) (before its : List Row) → NeedsNoneBeyond most from last → All (IsBeyond most from) its → Collects first before last → Collects first (before ++ its) last
counted most from first last before [] needs beyond took = subst (λ (rows : List Row). Collects first rows last) (sym (append-nil before)) took
counted most from first last before (row ∷ its) needs beyond took =
    let one : Collects first (before ++ row ∷ []) last = record {
      order = took.order;
      page = took.page;
      keeps = λ nothing. left_out last.order (page_end last.page) before last.kept row (took.keeps nothing) (needs row (All-head (IsBeyond most from) row its beyond));
    } in
    subst (λ (rows : List Row). Collects first rows last) (append_assoc before (row ∷ []) its)
    (counted most from first last (before ++ row ∷ []) its needs (All-tail (IsBeyond most from) row its beyond) one)
