-- The rows that a collector keeps are enough for its page.
use Rattle.std.proofs.Common.{◌≡◌, ℕ, ◌+◌, ◌-◌, ◌≤◌, ◌<◌, Bool, true, false, List, [], ◌∷◌, ◌++◌, All, get_or, length, take, drop, cond, le_trans, refl, sym, ◌∙◌, ap, subst, arith, inl, inr}
use mathlib.Core.Bool.{true≢false}
use Rattle.std.specs.List.Sorted.{IsPermutation, IsSortedBy}
use Rattle.std.specs.Ordering.{is_le, is_lt, ordering_reverse}
use Rattle.std.specs.declared.cmp.Ordering.{Ordering}
use Rattle.std.specs.declared.cmp.Ordering.TheVariants.{Less, Equal, Greater}
use Rattle.std.proofs.lemmas.Bool.{cases_lt}
use Rattle.std.proofs.lemmas.List.{append_assoc, append-nil, get_or-drop, get_or-take, get_or_default, length-drop, length-take, take-append-drop, take-append-le, take_all}
use Rattle.std.proofs.lemmas.List.Elements.{All-append, All-cons, All-head, All-nil, All-weaker}
use Rattle.std.proofs.lemmas.List.Sorted.{All-permutation, IsPermutation-append_comm, IsPermutation-append_left, IsPermutation-append_right, IsPermutation-trans, sorted_far, sum_by-IsPermutation}
use Rattle.std.proofs.lemmas.List.Sums.{count_by-le-length, sum_by-append}
use Rattle.row_select.specs.Collecting.{AreEnough, count_not_after}
use Rattle.row_select.specs.Orders.{AreInOrder, by_keys}
use Rattle.row_select.specs.Pages.{IsTop, cut, page_end}
use Rattle.row_select.specs.declared.order.Order.{Order}
use Rattle.row_select.specs.declared.page.Page.{Page}
use Rattle.row_select.specs.declared.row.Row.{Row}
use Rattle.row_select.specs.steps.Collecting.{IsBordered}
use Rattle.row_select.specs.steps.Selecting.{AreFirst}
use Rattle.row_select.proofs.Counting.{Falls, all_pass, count_all, first_pass}
use Rattle.row_select.proofs.Cutting.{page_of_front}
use Rattle.row_select.proofs.Ordered.{by_keys_total}
use Rattle.row_select.proofs.Selected.{precedes, precedes_ranks}
use Rattle.row_select.proofs.Sorting.{Rises, ordered, pairs_append, rises_from_sorted, sorted_from_rises}

-- not before, the other way round
not_after_from : (ordering back : Ordering) → back ≡ ordering_reverse ordering → is_lt back ≡ false → is_le ordering ≡ true
not_after_from Less back turned not_back = refl
not_after_from Equal back turned not_back = refl
not_after_from Greater back turned not_back = absurd (true≢false (sym (ap is_lt turned) ∙ not_back))

not_before_from : (ordering back : Ordering) → back ≡ ordering_reverse ordering → is_le ordering ≡ true → is_lt back ≡ false
not_before_from Less back turned is = ap is_lt turned
not_before_from Equal back turned is = ap is_lt turned
not_before_from Greater back turned is = absurd (true≢false (sym is))

module _ (order : Order) where
  -- a row doesn't come after another one
  abbrev pub not_after : Row → Row → Bool
  not_after other row = is_le (by_keys order.keys other row)

  to_not_after : (other row : Row) → precedes order row other ≡ false → not_after other row ≡ true
  to_not_after other row is = not_after_from (by_keys order.keys other row) (by_keys order.keys row other) ((by_keys_total order.keys).antisymm row other) is

  from_not_after : (other row : Row) → not_after other row ≡ true → precedes order row other ≡ false
  from_not_after other row is = not_before_from (by_keys order.keys other row) (by_keys order.keys row other) ((by_keys_total order.keys).antisymm row other) is

  -- these pass along the order
  pub chain : (first row later : Row) → not_after first row ≡ true → not_after row later ≡ true → not_after first later ≡ true
  chain first row later one other = to_not_after first later ((precedes_ranks order).chain later row first (from_not_after row later other) (from_not_after first row one))

  -- of rows in order, those that don't come after a row stand in front
  falls : (row : Row) (sorted : List Row) → IsSortedBy (precedes order) sorted → Falls (λ other. not_after other row) sorted
  falls row sorted ascend i j d below low passes =
      chain (get_or sorted i d) (get_or sorted j d) row
      (to_not_after (get_or sorted i d) (get_or sorted j d) (rises_from_sorted (precedes order) (precedes_ranks order) sorted ascend i j d below low)) passes

  more_before : (row : Row) (kept others : List Row) → count_not_after order row kept ≤ count_not_after order row (kept ++ others)
  more_before row kept others = omega (arith, sum_by-append (λ other. cond (not_after other row) 1 0) kept others)

  same_count : (row : Row) (kept sorted : List Row) → IsPermutation kept sorted → count_not_after order row sorted ≡ count_not_after order row kept
  same_count row kept sorted moved = sum_by-IsPermutation (λ other. cond (not_after other row) 1 0) kept sorted moved

  module _ (end : ℕ) where
    abbrev Behind : List Row → Row → Type 0
    Behind kept row = end ≤ count_not_after order row kept

    -- a row is left out
    pub left_out : (offered kept : List Row) (row : Row) → AreEnough order end offered kept → Behind kept row → AreEnough order end (offered ++ row ∷ []) kept
    left_out offered kept row enough behind = record {
      rest = enough.rest ++ row ∷ [];
      all = subst (IsPermutation (offered ++ row ∷ [])) (append_assoc kept enough.rest (row ∷ [])) (IsPermutation-append_left (row ∷ []) offered (kept ++ enough.rest) enough.all);
      after = All-append (Behind kept) enough.rest (row ∷ []) enough.after (All-cons (Behind kept) row [] behind (All-nil (Behind kept)));
    }

    -- a row is kept
    pub kept_too : (offered kept : List Row) (row : Row) → AreEnough order end offered kept → AreEnough order end (offered ++ row ∷ []) (kept ++ row ∷ [])
    kept_too offered kept row enough =
        let rest = enough.rest in record {
          rest = rest;
          all = IsPermutation-trans (offered ++ row ∷ []) ((kept ++ rest) ++ row ∷ []) ((kept ++ row ∷ []) ++ rest) (IsPermutation-append_left (row ∷ []) offered (kept ++ rest) enough.all)
              (subst (λ xs. IsPermutation xs ((kept ++ row ∷ []) ++ rest)) (sym (append_assoc kept rest (row ∷ [])))
              (subst (IsPermutation (kept ++ (rest ++ row ∷ []))) (sym (append_assoc kept (row ∷ []) rest))
              (IsPermutation-append_right kept (rest ++ row ∷ []) ((row ∷ []) ++ rest) (IsPermutation-append_comm rest (row ∷ [])))));
          after = All-weaker (Behind kept) (Behind (kept ++ row ∷ [])) (λ other behind. omega (arith, behind, more_before other kept (row ∷ []))) rest enough.after;
        }

    -- what was behind stays behind once the kept rows are cut
    still_behind : (row : Row) (kept sorted : List Row) → IsPermutation kept sorted → IsSortedBy (precedes order) sorted → Behind kept row → Behind (take end sorted) row
    still_behind row kept sorted moved ascend behind =
        first_pass (λ other. not_after other row) end sorted (falls row sorted ascend) (omega (arith, behind, same_count row kept sorted moved))

    -- what a cut drops is behind what it keeps
    dropped_behind : (sorted : List Row) → IsSortedBy (precedes order) sorted → All (Behind (take end sorted)) (drop end sorted)
    dropped_behind sorted ascend k d low =
        let inside : end + k < length sorted = omega (arith, low, length-drop end sorted) in
        let row = get_or (drop end sorted) k d in
        let each : All (λ other. not_after other row ≡ true) (take end sorted) = λ i e under. to_not_after (get_or (take end sorted) i e) row (
        let small : i < end = omega (arith, under, length-take end sorted) in
        let here : get_or (take end sorted) i e ≡ get_or sorted i d = get_or-take end sorted i e small ∙ get_or_default sorted i e d (omega (arith, small, inside)) in
        subst (λ x. precedes order row x ≡ false) (sym here)
        (subst (λ x. precedes order x (get_or sorted i d) ≡ false) (sym (get_or-drop end sorted k d))
        (sorted_far (precedes order) (precedes_ranks order) sorted ascend i (end + k) d (omega (arith, small)) inside))) in
        omega (arith, inside, length-take end sorted, count_all (λ other. not_after other row) (take end sorted) each)

    -- the first of the kept rows in order, and all others
    module _ (offered kept sorted : List Row) (enough : AreEnough order end offered kept) (moved : IsPermutation kept sorted) (ascend : IsSortedBy (precedes order) sorted) where
      abbrev first : List Row
      first = take end sorted

      abbrev others : List Row
      others = drop end sorted ++ enough.rest

      all_others : IsPermutation offered (first ++ others)
      all_others =
          IsPermutation-trans offered (kept ++ enough.rest) (first ++ others) enough.all
          (subst (IsPermutation (kept ++ enough.rest)) (append_assoc first (drop end sorted) enough.rest)
          (subst (λ xs. IsPermutation (kept ++ enough.rest) (xs ++ enough.rest)) (sym (take-append-drop end sorted))
          (IsPermutation-append_left enough.rest kept sorted moved)))

      behind : All (Behind first) others
      behind =
          All-append (Behind first) (drop end sorted) enough.rest (dropped_behind sorted ascend)
          (All-weaker (Behind kept) (Behind first) (λ row is. still_behind row kept sorted moved ascend is) enough.rest enough.after)

      cut_enough : AreEnough order end offered first
      cut_enough = record { rest = others; all = all_others; after = behind }

      short : length first ≤ end
      short = omega (arith, length-take end sorted)

      -- no other row comes before one of the first
      across : (later : List Row) → IsPermutation others later → All (λ x. All (λ y. precedes order y x ≡ false) later) first
      across later turned i d low j e under =
          let each : All (λ row. All (λ other. not_after other row ≡ true) first) later =
          All-permutation (λ row. All (λ other. not_after other row ≡ true) first) others later turned
          (All-weaker (Behind first) (λ row. All (λ other. not_after other row ≡ true) first) (λ row is. all_pass (λ other. not_after other row) first (le_trans short is)) others behind) in
          from_not_after (get_or first i d) (get_or later j e) (each j e under i d low)

      rises : Rises (precedes order) (precedes_ranks order) first
      rises i j d below low =
          let small : j < end = omega (arith, low, short) in
          let all : Rises (precedes order) (precedes_ranks order) sorted = rises_from_sorted (precedes order) (precedes_ranks order) sorted ascend in
          rw (get_or-take end sorted i d (omega (arith, below, small)), get_or-take end sorted j d small) (all i j d below (omega (arith, low, length-take end sorted)))

      no_other : (rows : List Row) → length first < end → All (Behind first) rows → rows ≡ []
      no_other [] few all = refl
      no_other (row ∷ rows) few all = absurd (omega (arith, few, All-head (Behind first) row rows all, count_by-le-length (λ other. not_after other row) first))

      -- all rows that were offered are in an order that begins as that of the kept ones
      abbrev BeginsSo : Type 0
      BeginsSo = (all : List Row) × AreInOrder order offered all × (take end sorted ≡ take end all)

      begins_so : BeginsSo
      begins_so =
          elim (cases_lt (length sorted) end) [
            | inl few ↦
                let whole : first ≡ sorted = take_all end sorted (omega (arith, few)) in
                let none : others ≡ [] = no_other others (omega (arith, few, short, length-take end sorted)) behind in (
                  sorted,
                  record {
                    same = subst (IsPermutation offered) (ap (λ xs. first ++ xs) none ∙ append-nil first ∙ whole) all_others;
                    ascend = ascend;
                  },
                  refl,
                )
            | inr many ↦
                let later = ordered (precedes order) (precedes_ranks order) others in (
                  first ++ later.0,
                  record {
                    same = IsPermutation-trans offered (first ++ others) (first ++ later.0) all_others (IsPermutation-append_right first others later.0 later.1);
                    ascend = sorted_from_rises (precedes order) (precedes_ranks order) (first ++ later.0)
                        (pairs_append (λ row next. precedes order next row ≡ false) first later.0 rises later.2 (across later.0 later.1));
                  },
                  sym (take-append-le end first later.0 (omega (arith, many, length-take end sorted)) ∙ take_all end first short),
                )
          ]

    -- the kept rows are cut
    pub kept_first : (offered kept front : List Row) → AreEnough order end offered kept → AreFirst order kept end front → AreEnough order end offered front
    kept_first offered kept front enough are = subst (AreEnough order end offered) (sym are.2) (cut_enough offered kept are.0 enough are.1.same are.1.ascend)

    -- no kept row comes after the last of those that a cut keeps
    pub bordered : (kept front : List Row) → AreFirst order kept end front → IsBordered order end front
    bordered kept front are = subst (IsBordered order end) (sym are.2) (λ d some long i e low.
        let sorted = are.0 in
        let last : end - 1 < length sorted = omega (arith, some, long, length-take end sorted) in
        let small : i < end = omega (arith, low, length-take end (take end sorted)) in
        let here : get_or (take end (take end sorted)) i e ≡ get_or sorted i d =
        get_or-take end (take end sorted) i e small ∙ get_or-take end sorted i e small ∙ get_or_default sorted i e d (omega (arith, small, last)) in
        let there : get_or (take end sorted) (end - 1) d ≡ get_or sorted (end - 1) d = get_or-take end sorted (end - 1) d (omega (arith, some)) in
        subst (λ row. not_after row (get_or (take end sorted) (end - 1) d) ≡ true) (sym here)
        (subst (λ row. not_after (get_or sorted i d) row ≡ true) (sym there)
        (to_not_after (get_or sorted i d) (get_or sorted (end - 1) d) (sorted_far (precedes order) (precedes_ranks order) sorted are.1.ascend i (end - 1) d (omega (arith, small)) last))))

    -- so a row that doesn't come before that last one is behind
    pub behind_border : (kept : List Row) (border row : Row) → IsBordered order end kept → 0 < end → end ≤ length kept → border ≡ get_or kept (end - 1) border → not_after border row ≡ true → Behind kept row
    behind_border kept border row borders some long is passes =
        let up_to : All (λ other. not_after other (get_or kept (end - 1) border) ≡ true) (take end kept) = borders border some long in
        let each : All (λ other. not_after other row ≡ true) (take end kept) =
        All-weaker (λ other. not_after other (get_or kept (end - 1) border) ≡ true) (λ other. not_after other row ≡ true)
        (λ other no. chain other border row (subst (λ last. not_after other last ≡ true) (sym is) no) passes) (take end kept) up_to in
        let total : count_not_after order row kept ≡ count_not_after order row (take end kept ++ drop end kept) = ap (count_not_after order row) (sym (take-append-drop end kept)) in
        omega (arith, long, length-take end kept, count_all (λ other. not_after other row) (take end kept) each, more_before row (take end kept) (drop end kept), total)

  same_page : (page : Page) (xs ys : List Row) → take (page_end page) xs ≡ take (page_end page) ys → cut page xs ≡ cut page ys
  same_page page xs ys is =
      sym (page_of_front page.offset page.count page.max_matches (page_end page) xs refl) ∙ ap (drop page.offset) is ∙ page_of_front page.offset page.count page.max_matches (page_end page) ys refl

  -- the page of enough rows is that of all
  pub top_of_all : (page : Page) (offered kept shown : List Row) → AreEnough order (page_end page) offered kept → IsTop kept order page shown → IsTop offered order page shown
  top_of_all page offered kept shown enough top =
      let all = begins_so (page_end page) offered kept top.0 enough top.1.same top.1.ascend in
      (all.0, all.1, top.2 ∙ same_page page top.0 all.0 all.2)
