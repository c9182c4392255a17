-- The aggregates over the rows that came so far.
use Rattle.std.specs.Prelude.{◌≡◌, List, length}
use Rattle.std.specs.List.{AllZip}
use Rattle.row_select.specs.declared.row.Row.{Row}
use Rattle.group_facet.specs.Distinct.{first_seen}
use Rattle.group_facet.specs.Folds.{IsGreatest, IsLeast, column_values, total}
use Rattle.group_facet.specs.declared.fold.Fold.{Fold}
use Rattle.group_facet.specs.declared.fold.Fold.TheVariants as folds
use Rattle.group_facet.specs.declared.fold.Running.{Running}
use Rattle.group_facet.specs.declared.fold.Running.TheVariants.{Count, Distinct, Least, Greatest, Sum}

-- which aggregate it is
abbrev pub fold_of : Running → Fold
fold_of (Count count) = folds.Count
fold_of (Distinct seen) = folds.Distinct seen.column
fold_of (Least kept) = folds.Least kept.column
fold_of (Greatest kept) = folds.Greatest kept.column
fold_of (Sum kept) = folds.Sum kept.column

-- it is that of these rows
abbrev pub IsRunning : Running → List Row → Type 0
IsRunning (Count count) rows = count ≡ length rows
IsRunning (Distinct seen) rows = seen.values.keys ≡ first_seen (column_values seen.column rows)
IsRunning (Least kept) rows = IsLeast (column_values kept.column rows) kept.value
IsRunning (Greatest kept) rows = IsGreatest (column_values kept.column rows) kept.value
IsRunning (Sum kept) rows = kept.value ≡ total (column_values kept.column rows)

-- these are the aggregates of these rows
abbrev pub AreRunning : List Fold → List Row → List Running → Type 0
AreRunning folds rows running = AllZip (λ fold each. (fold_of each ≡ fold) × IsRunning each rows) folds running
