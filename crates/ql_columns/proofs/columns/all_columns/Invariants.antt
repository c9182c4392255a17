use Rattle.std.proofs.Common.{◌≡◌, ◌∷◌, ◌++◌, length}
use Rattle.ql_columns.specs.declared.columns.IndexColumn.TheVariants.{Id, Field, Attr}
use Rattle.ql_columns.specs.Columns.{numbered}
use Rattle.ql_columns.proofs.columns.all_columns.Given as goal

abbrev pub invariant-fields : goal.invariant-fields
invariant-fields l = l.columns.items ≡ Id ∷ numbered Field l.field

abbrev pub invariant-attrs : goal.invariant-attrs
invariant-attrs l = l.columns.items ≡ Id ∷ numbered Field (length l.schema.fields) ++ numbered Attr l.attr
