-- The first of some rows: those that a selection brings to the front, once they are in order.
use Rattle.std.proofs.Common.{◌≡◌, ◌≤◌, ℕ, Bool, false, List, ◌∷◌, ◌++◌, All, length, get_or, sym, ◌∙◌, arith}
use Rattle.std.specs.Cmp.{IsStrictWeakOrder}
use Rattle.std.specs.List.Sorted.{IsPermutation, IsSortedBy, IsSplitAroundBy}
use Rattle.std.specs.Ordering.{is_lt}
use Rattle.std.proofs.lemmas.List.{take-append-le, take_all}
use Rattle.std.proofs.lemmas.List.Elements.{All-cons}
use Rattle.std.proofs.lemmas.List.Sorted.{All-permutation, IsPermutation-append, IsPermutation-trans, length_permutation, ranks_by}
use Rattle.row_select.specs.Orders.{by_keys}
use Rattle.row_select.specs.declared.order.Order.{Order}
use Rattle.row_select.specs.declared.row.Row.{Row}
use Rattle.row_select.specs.steps.Selecting.{AreFirst}
use Rattle.row_select.proofs.Ordered.{by_keys_total}
use Rattle.row_select.proofs.Sorting.{ordered, pairs_append, rises_from_sorted, sorted_from_rises}

module _ (order : Order) where
  -- a row comes before another one
  abbrev pub precedes : Row → Row → Bool
  precedes row other = is_lt (by_keys order.keys row other)

  pub precedes_ranks : IsStrictWeakOrder precedes
  precedes_ranks = ranks_by (by_keys_total order.keys) (λ (row : Row). row)

  -- what stays behind comes before nothing at the front
  across : (front : List Row) (row : Row) (back sorted others : List Row) → IsSplitAroundBy precedes front row back → IsPermutation front sorted → IsPermutation (row ∷ back) others
      → All (λ first. All (λ later. precedes later first ≡ false) others) sorted
  across front row back sorted others split front_moved back_moved =
      All-permutation (λ first. All (λ later. precedes later first ≡ false) others) front sorted front_moved (λ k d low.
      All-permutation (λ later. precedes later (get_or front k d) ≡ false) (row ∷ back) others back_moved
      (All-cons (λ later. precedes later (get_or front k d) ≡ false) row back (split.0 k d low)
      (λ j e under. precedes_ranks.chain (get_or back j e) row (get_or front k d) (split.1 j e under) (split.0 k d low))))

  pub selected : (rows front : List Row) (row : Row) (back sorted : List Row) (count : ℕ) → IsPermutation rows (front ++ row ∷ back) → length front ≡ count → IsSplitAroundBy precedes front row back
      → IsPermutation front sorted → IsSortedBy precedes sorted → AreFirst order rows count sorted
  selected rows front row back sorted count moved size split front_moved ascend =
      let rest = ordered precedes precedes_ranks (row ∷ back) in
      let long : length sorted ≡ count = length_permutation front sorted front_moved ∙ size in (
        sorted ++ rest.0,
        record {
          same = IsPermutation-trans rows (front ++ row ∷ back) (sorted ++ rest.0) moved (IsPermutation-append front sorted (row ∷ back) rest.0 front_moved rest.1);
          ascend = sorted_from_rises precedes precedes_ranks (sorted ++ rest.0)
              (pairs_append (λ first later. precedes later first ≡ false) sorted rest.0 (rises_from_sorted precedes precedes_ranks sorted ascend) rest.2 (across front row back sorted rest.0 split front_moved rest.1));
        },
        sym (take-append-le count sorted rest.0 (omega (arith, long)) ∙ take_all count sorted (omega (arith, long))),
      )

  pub all_in_order : (rows sorted : List Row) (count : ℕ) → length rows ≤ count → IsPermutation rows sorted → IsSortedBy precedes sorted → AreFirst order rows count sorted
  all_in_order rows sorted count few moved ascend =
      (sorted, record { same = moved; ascend = ascend }, sym (take_all count sorted (omega (arith, length_permutation rows sorted moved, few))))
