-- What is shown, as result sets.
use Rattle.std.specs.Prelude.{List, [], ◌∷◌, map}
use Rattle.reply_rows.specs.declared.result_set.ResultSet.{ResultSet}
use Rattle.ql_answers.specs.declared.found.ShownTable.{ShownTable}
use Rattle.ql_answers.specs.declared.found.ShownTable.TheVariants.{Rows, Groups, Facet}
use Rattle.ql_answers.specs.Reading.{groups_set, rows_set, value_row}

abbrev pub set_of : ShownTable → ResultSet
set_of (Rows shown rows) = rows_set shown.now rows.now
set_of (Groups shown groups) = groups_set shown.now groups.now
set_of (Facet column count values) = record {
  columns = column.now ∷ count.now ∷ [];
  rows = map value_row values.now;
}

abbrev pub sets_of : List ShownTable → List ResultSet
sets_of tables = map set_of tables
