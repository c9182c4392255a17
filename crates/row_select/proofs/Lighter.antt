-- Rows that have the id and the values of another one, and weigh no more.
use Rattle.std.proofs.Common.{◌≡◌, ℕ, ◌≤◌, Bool, true, false, ◌||◌, List, [], ◌∷◌, ◌++◌, pos, cond, slice_get, refl, sym, ◌∙◌, ap, arith}
use Rattle.std.specs.Prelude.{int_lt}
use mathlib.Core.Bool.{true≢false}
use borrow.Author.Tests.{ltb-true}
use Rattle.std.specs.Ordering.{int_cmp, is_le, nat_cmp, ordering_then}
use Rattle.std.specs.declared.cmp.Ordering.{Ordering}
use Rattle.std.specs.declared.cmp.Ordering.TheVariants.{Less, Equal, Greater}
use Rattle.std.proofs.lemmas.Cmp.{int_cmp_total, nat_cmp_total, tied_itself}
use Rattle.std.proofs.lemmas.List.Sums.{sum_by-le-sum_by}
use Rattle.row_select.specs.Collecting.{Collection, count_not_after}
use Rattle.row_select.specs.Columns.{attr_number, column_value}
use Rattle.row_select.specs.Filters.{is_weight}
use Rattle.row_select.specs.Orders.{by_key, by_keys}
use Rattle.row_select.specs.Pages.{page_end}
use Rattle.row_select.specs.Sinks.{Collects, IsLighter, NeedsNoLighter}
use Rattle.row_select.specs.declared.order.Order.{Order}
use Rattle.row_select.specs.declared.row.ColumnRef.{ColumnRef}
use Rattle.row_select.specs.declared.row.ColumnRef.TheVariants as columns
use Rattle.row_select.specs.declared.row.Row.{Row}
use Rattle.row_select.specs.steps.Collecting.{ascends_by_weight, brings_lighter}
use Rattle.row_select.proofs.Collected.{chain, left_out, not_after}

-- such a row holds the same in each column but the weight
pub same_column : (column : ColumnRef) (its row : Row) → is_weight column ≡ false → IsLighter its row → column_value column its ≡ column_value column row
same_column columns.Id its row other lighter = ap pos lighter.id
same_column (columns.Attr place) its row other lighter = ap (λ values. attr_number (slice_get values place)) lighter.values
same_column columns.Weight its row other lighter = absurd (true≢false other)

pub up_to : (a b : ℕ) → a ≤ b → is_le (int_cmp (pos a) (pos b)) ≡ true
up_to a b small = by (int_lt (pos a) (pos b)) (int_lt (pos b) (pos a)) refl
  where
    by : (less more : Bool) → int_lt (pos b) (pos a) ≡ more → is_le (cond less Less (cond more Greater Equal)) ≡ true
    by true more is = refl
    by false true is = absurd (omega (arith, small, ltb-true b a is))
    by false false is = refl

level : (column : ColumnRef) (descending : Bool) (its row : Row) → is_weight column ≡ false → IsLighter its row → is_le (by_key (column, descending) row its) ≡ true
level column true its row other lighter =
    ap is_le (ap (λ value. int_cmp value (column_value column row)) (same_column column its row other lighter) ∙ tied_itself int_cmp_total (column_value column row))
level column false its row other lighter =
    ap is_le (ap (int_cmp (column_value column row)) (same_column column its row other lighter) ∙ tied_itself int_cmp_total (column_value column row))

by_one_key : (column : ColumnRef) (descending : Bool) (its row : Row) → ascends_by_weight (column, descending) ≡ false → IsLighter its row → is_le (by_key (column, descending) row its) ≡ true
by_one_key columns.Id descending its row none lighter = level columns.Id descending its row refl lighter
by_one_key (columns.Attr place) descending its row none lighter = level (columns.Attr place) descending its row refl lighter
by_one_key columns.Weight true its row none lighter = up_to its.weight row.weight lighter.weight
by_one_key columns.Weight false its row none lighter = absurd (true≢false none)

pub then_le : (first rest : Ordering) → is_le first ≡ true → is_le rest ≡ true → is_le (ordering_then first rest) ≡ true
then_le Less rest is last = refl
then_le Equal rest is last = last
then_le Greater rest is last = absurd (true≢false (sym is))

neither : (here later : Bool) → (here || later) ≡ false → (here ≡ false) × (later ≡ false)
neither true later none = absurd (true≢false none)
neither false later none = (refl, none)

-- where no key brings lighter rows forward, a row doesn't come after a lighter one
not_after_lighter : (keys : List (ColumnRef × Bool)) (its row : Row) → brings_lighter keys ≡ false → IsLighter its row → is_le (by_keys keys row its) ≡ true
not_after_lighter [] its row none lighter = ap is_le (ap (nat_cmp row.id) lighter.id ∙ tied_itself nat_cmp_total row.id)
not_after_lighter (key ∷ keys) its row none lighter =
    let both = neither (ascends_by_weight key) (brings_lighter keys) none in
    then_le (by_key key row its) (by_keys keys row its) (by_one_key key.0 key.1 its row both.0 lighter) (not_after_lighter keys its row both.1 lighter)

pub one_more : (here there : Bool) → (here ≡ true → there ≡ true) → cond here 1 0 ≤ cond there 1 0
one_more true true so = omega arith
one_more true false so = absurd (true≢false (sym (so refl)))
one_more false there so = omega arith

module _ (order : Order) (row : Row) (none : brings_lighter order.keys ≡ false) where
  -- so no fewer rows don't come after the lighter one
  pub lighter_behind : (end : ℕ) (kept : List Row) → end ≤ count_not_after order row kept → (its : Row) → IsLighter its row → end ≤ count_not_after order its kept
  lighter_behind end kept behind its lighter =
      omega (
        arith,
        behind,
        sum_by-le-sum_by (λ other. cond (not_after order other row) 1 0) (λ other. cond (not_after order other its) 1 0) kept
            (λ other. one_more (not_after order other row) (not_after order other its) (λ is. chain order other row its is (not_after_lighter order.keys its row none lighter))),
      )

-- a collector takes a row that it doesn't need by staying as it is
pub passed : (first last : Collection) (rows : List Row) (row its : Row) → NeedsNoLighter last row → IsLighter its row → Collects first rows last → Collects first (rows ++ its ∷ []) last
passed first last rows row its needs lighter took = record {
  order = took.order;
  page = took.page;
  keeps = λ nothing. left_out last.order (page_end last.page) rows last.kept its (took.keeps nothing) (needs its lighter);
}
