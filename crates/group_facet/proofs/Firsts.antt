-- The first of some rows, with one row more.
use Rattle.std.proofs.Common.{◌≡◌, Bool, true, false, List, [], ◌∷◌, ◌++◌, refl}
use Rattle.std.proofs.lemmas.List.Elements.{All-cons, All-nil, All-push, All-weaker, Contains-append_left, Contains-push}
use Rattle.row_select.specs.declared.order.Order.{Order}
use Rattle.row_select.specs.declared.row.Row.{Row}
use Rattle.row_select.proofs.Selected.{precedes, precedes_ranks}
use Rattle.group_facet.specs.Groups.{IsFirst}

module _ (order : Order) where
  not_before_itself : (row : Row) (before : Bool) → precedes order row row ≡ before → precedes order row row ≡ false
  not_before_itself row true is = (precedes_ranks order).one_way row row is
  not_before_itself row false is = is

  pub first_alone : (row : Row) → IsFirst order.keys (row ∷ []) row
  first_alone row = record {
    among = Contains-push [] row;
    none_before = All-cons (λ other. precedes order other row ≡ false) row [] (not_before_itself row (precedes order row row) refl) (All-nil (λ other. precedes order other row ≡ false));
  }

  -- it comes before the first so far
  pub first_taken : (rows : List Row) (first row : Row) → precedes order row first ≡ true → IsFirst order.keys rows first → IsFirst order.keys (rows ++ row ∷ []) row
  first_taken rows first row before its = record {
    among = Contains-push rows row;
    none_before = All-push (λ other. precedes order other row ≡ false) rows row
        (All-weaker (λ other. precedes order other first ≡ false) (λ other. precedes order other row ≡ false)
        (λ other not_before. (precedes_ranks order).chain other first row not_before ((precedes_ranks order).one_way row first before)) rows its.none_before)
        (not_before_itself row (precedes order row row) refl);
  }

  -- or it doesn't
  pub first_kept : (rows : List Row) (first row : Row) → precedes order row first ≡ false → IsFirst order.keys rows first → IsFirst order.keys (rows ++ row ∷ []) first
  first_kept rows first row behind its = record {
    among = Contains-append_left rows (row ∷ []) first its.among;
    none_before = All-push (λ other. precedes order other first ≡ false) rows row its.none_before behind;
  }
