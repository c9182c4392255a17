-- Whether a number is in a list, by a search among the same numbers in order.
use Rattle.std.proofs.Common.{◌≡◌, ◌<◌, ℕ, ℤ, pos, Bool, true, false, ◌||◌, not, List, length, get_or, Result, Ok, Err, refl, sym, ap, subst, ◌∙◌, inl, inr, arith}
use mathlib.Core.Bool.{beq}
use Rattle.std.specs.List.Sorted.{IsBinarySearchResult, IsSearchInRange, IsSorted}
use Rattle.std.specs.Ordering.{int_cmp, int_eq, is_eq}
use Rattle.std.specs.Result.{is_ok}
use Rattle.std.proofs.lemmas.Bool.{and_parts, cases_lt, or_left, true≢false}
use Rattle.std.proofs.lemmas.Cmp.{int_cmp_total, int_eq_equiv}
use Rattle.std.proofs.lemmas.List.Folds.{list_any_at, list_any_none}
use Rattle.std.proofs.lemmas.List.Sums.{AllPass-from_list_all}
use Rattle.std.proofs.lemmas.List.Sorted.{list_any-IsPermutation, searchable_from_sorted}
use Rattle.row_select.specs.Columns.{column_value}
use Rattle.row_select.specs.Filters.{AreIdsOf, holds, is_among, is_equal, is_id, is_weighed, lists_ids}
use Rattle.row_select.specs.declared.filter.CompareOp.{CompareOp}
use Rattle.row_select.specs.declared.filter.CompareOp.TheVariants as operators
use Rattle.row_select.specs.declared.filter.Filter.{Filter}
use Rattle.row_select.specs.declared.filter.Filter.TheVariants as filters
use Rattle.row_select.specs.declared.row.ColumnRef.{ColumnRef}
use Rattle.row_select.specs.declared.row.ColumnRef.TheVariants as columns
use Rattle.row_select.specs.declared.row.Row.{Row}
use Rattle.row_select.specs.steps.Listing.{AreListed, ListsIds, column_of, listed, passes}

-- what a search among numbers in order finds
pub number_found : (numbers : List ℤ) (number : ℤ) (found : Result ℕ ℕ) → IsSorted int_cmp numbers → IsSearchInRange found (length numbers) → IsBinarySearchResult (λ n. int_cmp n number) numbers found → is_ok found ≡ is_among numbers number
number_found numbers number (Ok i) ascend within position = sym (list_any_at (λ n. int_eq n number) numbers i number within (ap is_eq (position number)))
number_found numbers number (Err i) ascend within position =
    let parts = position (searchable_from_sorted int_cmp_total (λ (n : ℤ). n) numbers number ascend) in
    sym (list_any_none (λ n. int_eq n number) numbers (λ k d h. elim (cases_lt k i) [
      | inl before ↦ ap is_eq (parts.0 k d (omega arith) before)
      | inr after ↦ ap is_eq (parts.1 k d after h)
    ]))

-- the numbers of a condition in order are the same numbers
among_listed : (condition : Filter) (numbers : List ℤ) (number : ℤ) → AreListed condition numbers → is_among numbers number ≡ is_among (listed condition) number
among_listed condition numbers number its = sym (list_any-IsPermutation (λ n. int_eq n number) (listed condition) numbers its.same)

-- a condition that lists numbers, by what is found among these in order
by_found : (column : ColumnRef) (numbers : List ℤ) (negated : Bool) (value : ℤ) (found : Bool) → found ≡ is_among numbers value → not (beq found negated) ≡ passes (filters.Among column numbers negated) value
by_found column numbers true value true same = ap not same
by_found column numbers true value false same = ap not same
by_found column numbers false value true same = same
by_found column numbers false value false same = same

pub listed_passes : (condition : Filter) (column : ColumnRef) (values : List ℤ) (negated : Bool) (numbers : List ℤ) (value : ℤ) (found : Bool) → condition ≡ filters.Among column values negated → AreListed condition numbers → found ≡ is_among numbers value → not (beq found negated) ≡ passes condition value
listed_passes condition column values negated numbers value found is its told =
    let there : found ≡ is_among values value =
    told ∙ among_listed (filters.Among column values negated) numbers value (subst (λ c. AreListed c numbers) is its) in
    subst (λ c. not (beq found negated) ≡ passes c value) (sym is) (by_found column values negated value found there)

-- a condition holds of a row where what that has in the condition's column passes
pub holds_by : (condition : Filter) (row : Row) → passes condition (column_value (column_of condition) row) ≡ holds condition row
holds_by (filters.Compare column op number) row = refl
holds_by (filters.Among column numbers negated) row = refl
holds_by (filters.Between column low high) row = refl

-- ---- conditions on the id
lists_one : (condition : Filter) (number : ℤ) (numbers : List ℤ) → condition ≡ filters.Compare columns.Id operators.Equal number → AreListed condition numbers → ListsIds condition numbers
lists_one condition number numbers is its = record {
  ascend = its.ascend;
  all = λ row holding.
      among_listed condition numbers (pos row.id) its
      ∙ ap (λ c. is_among (listed c) (pos row.id)) is
      ∙ or_left (int_eq number (pos row.id)) false (int_eq_equiv.symm number (pos row.id) ∙ ap (λ c. is_weighed c || holds c row) (sym is) ∙ holding);
}

lists_some : (condition : Filter) (values numbers : List ℤ) → condition ≡ filters.Among columns.Id values false → AreListed condition numbers → ListsIds condition numbers
lists_some condition values numbers is its = record {
  ascend = its.ascend;
  all = λ row holding.
      among_listed condition numbers (pos row.id) its
      ∙ ap (λ c. is_among (listed c) (pos row.id)) is
      ∙ ap (λ c. is_weighed c || holds c row) (sym is)
      ∙ holding;
}

id_column : (column : ColumnRef) → is_id column ≡ true → column ≡ columns.Id
id_column columns.Id told = refl
id_column (columns.Attr place) told = absurd (true≢false (sym told))
id_column columns.Weight told = absurd (true≢false (sym told))

equal_op : (op : CompareOp) → is_equal op ≡ true → op ≡ operators.Equal
equal_op operators.Equal told = refl
equal_op operators.NotEqual told = absurd (true≢false (sym told))
equal_op operators.Less told = absurd (true≢false (sym told))
equal_op operators.Greater told = absurd (true≢false (sym told))
equal_op operators.AtMost told = absurd (true≢false (sym told))
equal_op operators.AtLeast told = absurd (true≢false (sym told))

is_no : (b : Bool) → not b ≡ true → b ≡ false
is_no true told = sym told
is_no false told = refl

-- what a condition lists that asks for one of some ids
pub lists : (condition : Filter) (numbers : List ℤ) → lists_ids condition ≡ true → AreListed condition numbers → ListsIds condition numbers
lists (filters.Compare column op number) numbers told its =
    let both = and_parts (is_id column) (is_equal op) told in
    lists_one (filters.Compare column op number) number numbers
    (ap (λ column. filters.Compare column op number) (id_column column both.0) ∙ ap (λ op. filters.Compare columns.Id op number) (equal_op op both.1)) its
lists (filters.Among column values negated) numbers told its =
    let both = and_parts (is_id column) (not negated) told in
    lists_some (filters.Among column values negated) values numbers
    (ap (λ column. filters.Among column values negated) (id_column column both.0) ∙ ap (λ negated. filters.Among columns.Id values negated) (is_no negated both.1)) its
lists (filters.Between column low high) numbers told its = absurd (true≢false (sym told))

-- what one of the conditions lists
pub ids_of : (conditions : List Filter) (i : ℕ) (condition : Filter) (numbers : List ℤ) → i < length conditions → condition ≡ get_or conditions i condition → ListsIds condition numbers → AreIdsOf conditions numbers
ids_of conditions i condition numbers within at lists = record {
  ascend = lists.ascend;
  all = λ row holding. lists.all row (subst (λ c. (is_weighed c || holds c row) ≡ true) (sym at) (AllPass-from_list_all (λ c. is_weighed c || holds c row) conditions holding i condition within));
}
