use Rattle.std.proofs.Common.{◌≡◌, ◌∷◌, ◌++◌, take, map}
use Rattle.std.specs.List.{enumerate_from}
use Rattle.row_select.specs.declared.row.ColumnRef.TheVariants.{Id}
use Rattle.ql_columns.specs.Columns.{id_name}
use Rattle.ql_select.specs.Columns.{attr_shown, row_shown}
use Rattle.ql_select.proofs.showing.show_all.Given as goal

abbrev pub invariant-attrs : goal.invariant-attrs
invariant-attrs l = l.shown.items ≡ l.fn.shown.items ++ row_shown l.schema id_name Id ∷ map (attr_shown l.schema) (enumerate_from 0 (take l.place l.schema.attrs))
