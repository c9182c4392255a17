-- One row more for an aggregate.
use Rattle.std.specs.Prelude.{◌≡◌, List, [], ◌∷◌, ◌++◌}
use Rattle.row_select.specs.declared.row.Row.{Row}
use Rattle.group_facet.specs.RunningFolds.{IsRunning, fold_of}
use Rattle.group_facet.specs.declared.fold.Running.{Running}

-- the aggregate, with one row more
pub record GoesOn (row : Row) (before after : Running) : Type 0 where
  pub fold : fold_of after ≡ fold_of before
  pub goes : (rows : List Row) → IsRunning before rows → IsRunning after (rows ++ row ∷ [])
