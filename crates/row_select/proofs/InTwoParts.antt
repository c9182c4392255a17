-- Conditions on the weight, and those on other columns.
use Rattle.std.proofs.Common.{◌≡◌, ℤ, Bool, true, false, ◌&&◌, ◌||◌, not, if◌then◌else◌, List, [], ◌∷◌, pos, slice_get, refl, ap, ◌∙◌}
use Rattle.std.specs.Prelude.{int_le}
use Rattle.row_select.specs.Columns.{attr_number, column_value}
use Rattle.row_select.specs.Filters.{all_hold, compares, hold_unweighed, hold_weighed, holds, is_among, is_weight, is_weighed}
use Rattle.row_select.specs.declared.filter.Filter.{Filter}
use Rattle.row_select.specs.declared.filter.Filter.TheVariants as filters
use Rattle.row_select.specs.declared.row.ColumnRef.{ColumnRef}
use Rattle.row_select.specs.declared.row.ColumnRef.TheVariants as columns
use Rattle.row_select.specs.declared.row.Row.{Row}

split : (weighed here others weighed_others : Bool) → (here && (others && weighed_others)) ≡ (((weighed || here) && others) && ((not weighed || here) && weighed_others))
split true true others weighed_others = refl
split false true others weighed_others = refl
split true false true weighed_others = refl
split true false false weighed_others = refl
split false false others weighed_others = refl

-- all hold where both parts do
pub hold_in_two : (conditions : List Filter) (row : Row) → all_hold conditions row ≡ (hold_unweighed conditions row && hold_weighed conditions row)
hold_in_two [] row = refl
hold_in_two (condition ∷ conditions) row =
    ap (λ b. holds condition row && b) (hold_in_two conditions row)
    ∙ split (is_weighed condition) (holds condition row) (hold_unweighed conditions row) (hold_weighed conditions row)

module _ (row other : Row) (ids : row.id ≡ other.id) (values : row.values ≡ other.values) where
  -- what a test says of a column, where that isn't the weight
  in_column : (test : ℤ → Bool) (column : ColumnRef) → (is_weight column || test (column_value column row)) ≡ (is_weight column || test (column_value column other))
  in_column test columns.Id = ap (λ id. test (pos id)) ids
  in_column test (columns.Attr place) = ap (λ list. test (attr_number (slice_get list place))) values
  in_column test columns.Weight = refl

  one_holds : (condition : Filter) → (is_weighed condition || holds condition row) ≡ (is_weighed condition || holds condition other)
  one_holds (filters.Compare column op number) = in_column (λ value. compares op value number) column
  one_holds (filters.Among column numbers negated) = in_column (λ value. if negated then not (is_among numbers value) else is_among numbers value) column
  one_holds (filters.Between column low high) = in_column (λ value. int_le low value && int_le value high) column

  -- what isn't asked of the weight holds whatever that is
  pub hold_any_weight : (conditions : List Filter) → hold_unweighed conditions row ≡ hold_unweighed conditions other
  hold_any_weight [] = refl
  hold_any_weight (condition ∷ conditions) =
      ap (λ b. b && hold_unweighed conditions row) (one_holds condition) ∙ ap (λ b. (is_weighed condition || holds condition other) && b) (hold_any_weight conditions)

-- what is asked of the weight alone holds whatever else a row has
weight_alone : (test : ℤ → Bool) (column : ColumnRef) (row other : Row) → row.weight ≡ other.weight → (not (is_weight column) || test (column_value column row)) ≡ (not (is_weight column) || test (column_value column other))
weight_alone test columns.Id row other same = refl
weight_alone test (columns.Attr place) row other same = refl
weight_alone test columns.Weight row other same = ap (λ weight. test (pos weight)) same

one_weighed : (condition : Filter) (row other : Row) → row.weight ≡ other.weight → (not (is_weighed condition) || holds condition row) ≡ (not (is_weighed condition) || holds condition other)
one_weighed (filters.Compare column op number) row other same = weight_alone (λ value. compares op value number) column row other same
one_weighed (filters.Among column numbers negated) row other same = weight_alone (λ value. if negated then not (is_among numbers value) else is_among numbers value) column row other same
one_weighed (filters.Between column low high) row other same = weight_alone (λ value. int_le low value && int_le value high) column row other same

pub hold_by_weight : (row other : Row) → row.weight ≡ other.weight → (conditions : List Filter) → hold_weighed conditions row ≡ hold_weighed conditions other
hold_by_weight row other same [] = refl
hold_by_weight row other same (condition ∷ conditions) =
    ap (λ b. b && hold_weighed conditions row) (one_weighed condition row other same)
    ∙ ap (λ b. (not (is_weighed condition) || holds condition other) && b) (hold_by_weight row other same conditions)
