-- Aggregates, with one row more.
use Rattle.std.proofs.Common.{◌≡◌, ℤ, ◌≤ℤ◌, Bool, true, false, cond, List, [], ◌∷◌, ◌++◌, Contains, sym, subst, ◌∙◌, ap, arith}
use Rattle.std.specs.Prelude.{int_lt}
use Rattle.std.specs.List.{AllZip}
use Rattle.std.specs.Int.{int_max, int_min}
use Rattle.std.specs.Ordering.{int_eq}
use Rattle.std.proofs.lemmas.List.{map-append}
use Rattle.std.proofs.lemmas.List.Elements.{All-head, All-push, All-weaker, Contains-append_left, Contains-push}
use Rattle.std.proofs.lemmas.Int.{fold-int_max_bounds, fold-int_min_bounds}
use Rattle.indexmap.specs.IndexSet.{insert_key}
use Rattle.row_select.specs.Columns.{column_value}
use Rattle.row_select.specs.declared.row.ColumnRef.{ColumnRef}
use Rattle.row_select.specs.declared.row.Row.{Row}
use Rattle.group_facet.specs.Distinct.{first_seen}
use Rattle.group_facet.specs.Folds.{IsFolded, IsGreatest, IsLeast, column_values}
use Rattle.group_facet.specs.declared.fold.Fold.{Fold}
use Rattle.group_facet.specs.declared.fold.Running.{Running}
use Rattle.group_facet.specs.RunningFolds.{AreRunning, IsRunning, fold_of}
use Rattle.group_facet.specs.steps.Folding.{GoesOn}
use Rattle.group_facet.proofs.FirstSeen.{first_seen_push}

trans : (a b c : ℤ) → a ≤ℤ b → b ≤ℤ c → a ≤ℤ c
trans a b c one two = grind (arith, one, two)

least_among : (values : List ℤ) (least value : ℤ) (less : Bool) → Contains values least → Contains (values ++ value ∷ []) (cond less least value)
least_among values least value true among = Contains-append_left values (value ∷ []) least among
least_among values least value false among = Contains-push values value

least_more : (values : List ℤ) (least value new : ℤ) → new ≡ int_min value least → IsLeast values least → IsLeast (values ++ value ∷ []) new
least_more values least value new is its =
    let bounds = fold-int_min_bounds value (least ∷ []) new is in
    let below_least : new ≤ℤ least = All-head (λ x. new ≤ℤ x) least [] bounds.1 in
    record {
      among = subst (Contains (values ++ value ∷ [])) (sym is) (least_among values least value (int_lt least value) its.among);
      none_less = All-push (λ other. new ≤ℤ other) values value (All-weaker (λ other. least ≤ℤ other) (λ other. new ≤ℤ other) (λ other h. trans new least other below_least h) values its.none_less) bounds.0;
    }

greatest_among : (values : List ℤ) (greatest value : ℤ) (less : Bool) → Contains values greatest → Contains (values ++ value ∷ []) (cond less value greatest)
greatest_among values greatest value true among = Contains-push values value
greatest_among values greatest value false among = Contains-append_left values (value ∷ []) greatest among

greatest_more : (values : List ℤ) (greatest value new : ℤ) → new ≡ int_max value greatest → IsGreatest values greatest → IsGreatest (values ++ value ∷ []) new
greatest_more values greatest value new is its =
    let bounds = fold-int_max_bounds value (greatest ∷ []) new is in
    let above_greatest : greatest ≤ℤ new = All-head (λ x. x ≤ℤ new) greatest [] bounds.1 in
    record {
      among = subst (Contains (values ++ value ∷ [])) (sym is) (greatest_among values greatest value (int_lt greatest value) its.among);
      none_greater = All-push (λ other. other ≤ℤ new) values value (All-weaker (λ other. other ≤ℤ greatest) (λ other. other ≤ℤ new) (λ other h. trans other greatest new h above_greatest) values its.none_greater) bounds.0;
    }

module _ (column : ColumnRef) (row : Row) where
  -- the values with that of one row more
  values_more : (rows : List Row) → column_values column (rows ++ row ∷ []) ≡ column_values column rows ++ column_value column row ∷ []
  values_more rows = map-append (column_value column) rows (row ∷ [])

  pub least_push : (rows : List Row) (least new : ℤ) → new ≡ int_min (column_value column row) least → IsLeast (column_values column rows) least → IsLeast (column_values column (rows ++ row ∷ [])) new
  least_push rows least new is its = subst (λ values. IsLeast values new) (sym (values_more rows)) (least_more (column_values column rows) least (column_value column row) new is its)

  pub greatest_push : (rows : List Row) (greatest new : ℤ) → new ≡ int_max (column_value column row) greatest → IsGreatest (column_values column rows) greatest → IsGreatest (column_values column (rows ++ row ∷ [])) new
  greatest_push rows greatest new is its = subst (λ values. IsGreatest values new) (sym (values_more rows)) (greatest_more (column_values column rows) greatest (column_value column row) new is its)

  pub seen_push : (rows : List Row) (old new : List ℤ) (value : ℤ) → new ≡ insert_key int_eq old value → value ≡ column_value column row → old ≡ first_seen (column_values column rows) → new ≡ first_seen (column_values column (rows ++ row ∷ []))
  seen_push rows old new value is here so =
      is ∙ ap (λ ks. insert_key int_eq ks value) so ∙ ap (insert_key int_eq (first_seen (column_values column rows))) here
      ∙ sym (first_seen_push (column_values column rows) (column_value column row)) ∙ ap first_seen (sym (values_more rows))

-- the values of aggregates
pub folded_all : (which : List Fold) (rows : List Row) (running : List Running) (values : List ℤ) → AreRunning which rows running
    → AllZip (λ (each : Running) value. (all : List Row) → IsRunning each all → IsFolded all (fold_of each) value) running values → AllZip (IsFolded rows) which values
folded_all [] rows [] [] are have = tt
folded_all [] rows [] (value ∷ values) are have = absurd have
folded_all [] rows (each ∷ running) values are have = absurd are
folded_all (fold ∷ which) rows [] values are have = absurd are
folded_all (fold ∷ which) rows (each ∷ running) [] are have = absurd have
folded_all (fold ∷ which) rows (each ∷ running) (value ∷ values) are have =
    (subst (λ (f : Fold). IsFolded rows f value) are.0.0 (have.0 rows are.0.1), folded_all which rows running values are.1 have.1)

-- aggregates that have all gone on by one row
pub gone_on : (which : List Fold) (rows : List Row) (row : Row) (before after : List Running) → AllZip (GoesOn row) before after → AreRunning which rows before → AreRunning which (rows ++ row ∷ []) after
gone_on [] rows row [] [] go are = tt
gone_on [] rows row [] (new ∷ after) go are = absurd go
gone_on [] rows row (old ∷ before) after go are = absurd are
gone_on (fold ∷ which) rows row [] after go are = absurd are
gone_on (fold ∷ which) rows row (old ∷ before) [] go are = absurd go
gone_on (fold ∷ which) rows row (old ∷ before) (new ∷ after) go are =
    ((go.0.fold ∙ are.0.0, go.0.goes rows are.0.1), gone_on which rows row before after go.1 are.1)
