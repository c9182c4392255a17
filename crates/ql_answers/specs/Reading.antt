-- SELECT from an index: what it wants, why it is refused, and the result sets of what it finds. "SELECT syntax" of the manual.
use Rattle.std.specs.Prelude.{◌≡◌, ◌⊎◌, ℕ, ℤ, pos, List, [], ◌∷◌, map, codes, Some}
use Rattle.mysql_wire.specs.declared.rows.Cell.{Cell}
use Rattle.mysql_wire.specs.declared.rows.Cell.TheVariants.{Whole}
use Rattle.mysql_wire.specs.declared.rows.Column.{Column}
use Rattle.mysql_wire.specs.declared.rows.ColumnKind.TheVariants as kinds
use Rattle.index_conf.specs.declared.conf.IndexConf.{IndexConf}
use Rattle.ql_tree.specs.declared.select.Select.{Select}
use Rattle.ql_refusals.specs.Refusals.{Refused}
use Rattle.reply_rows.specs.declared.result_set.ResultSet.{ResultSet}
use Rattle.row_select.specs.Columns.{column_value}
use Rattle.row_select.specs.declared.row.Row.{Row}
use Rattle.group_facet.specs.ShownGroups.{group_value}
use Rattle.group_facet.specs.declared.grouping.GroupRow.{GroupRow}
use Rattle.group_facet.specs.declared.shown.GroupColumn.{GroupColumn}
use Rattle.group_facet.specs.declared.shown.GroupColumn.TheVariants.{Best}
use Rattle.table_search.specs.declared.found.Found.{Found}
use Rattle.table_search.specs.declared.found.FoundTable.{FoundTable}
use Rattle.table_search.specs.declared.found.FoundTable.TheVariants as found_tables
use Rattle.ql_select.specs.declared.selection.Selection.{Selection}
use Rattle.ql_select.specs.declared.selection.Shown.{Shown}
use Rattle.ql_select.specs.Selections.{Selects, RefusesSelection}
use Rattle.ql_answers.specs.Indexes.{index_fault, Serves}

-- A SELECT wants what its selection asks of the index at this place.
pub record WantsSearch (confs : List IndexConf) (select : Select) (place : ℕ) (selection : Selection) : Type 0 where
  pub conf : IndexConf
  pub serves : Serves confs select.index place conf
  pub selects : Selects conf select selection

-- A SELECT is refused by its index, or by what else it says.
abbrev pub RefusesSelect : List IndexConf → Select → Refused → Type 0
RefusesSelect confs select refusal =
    (index_fault confs select.index ≡ Some refusal)
    ⊎ ((place : ℕ) × (conf : IndexConf) × Serves confs select.index place conf × RefusesSelection conf select refusal)

-- what a column shows of a document that is of no group: all that a group alone has is 0
abbrev pub row_value : GroupColumn → Row → ℤ
row_value (Best column) row = column_value column row
row_value from row = pos 0

-- the result set of some documents: of each, what the columns show
abbrev pub rows_set : List Shown → List Row → ResultSet
rows_set shown rows = record {
  columns = map (λ one. one.column) shown;
  rows = map (λ row. map (λ one. Whole (row_value one.from row)) shown) rows;
}

-- that of some groups
abbrev pub groups_set : List Shown → List GroupRow → ResultSet
groups_set shown groups = record {
  columns = map (λ one. one.column) shown;
  rows = map (λ group. map (λ one. Whole (group_value one.from group)) shown) groups;
}

abbrev pub table_set : List Shown → FoundTable → ResultSet
table_set shown (found_tables.Rows rows) = rows_set shown rows
table_set shown (found_tables.Groups groups) = groups_set shown groups

-- the column of the numbers of documents
abbrev pub count_column : Column
count_column = record { name = codes "count(*)"; kind = kinds.Unsigned }

-- a value of a facet, with the number of documents that have it
abbrev pub value_row : ℤ × ℕ → List Cell
value_row value = Whole value.0 ∷ Whole (pos value.1) ∷ []

-- the result set of a facet: its values
abbrev pub facet_set : Column → List (ℤ × ℕ) → ResultSet
facet_set column values = record {
  columns = column ∷ count_column ∷ [];
  rows = map value_row values;
}

abbrev pub facet_sets : List Column → List (List (ℤ × ℕ)) → List ResultSet
facet_sets (column ∷ columns) (values ∷ facets) = facet_set column values ∷ facet_sets columns facets
facet_sets columns facets = []

-- the result sets of a SELECT: its documents or groups, then each facet
abbrev pub found_sets : Selection → Found → List ResultSet
found_sets selection found = table_set selection.shown found.table ∷ facet_sets selection.facets found.facets
