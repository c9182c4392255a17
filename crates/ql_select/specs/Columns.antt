-- Which columns a SELECT shows. "SELECT syntax" of the manual.
use Rattle.std.specs.Prelude.{ℕ, ◌+◌, List, [], ◌∷◌, ◌++◌, map, codes, Option, Some, None, unwrap_or}
use Rattle.std.specs.List.{enumerate_from}
use Rattle.doc_types.specs.declared.schema.Schema.{Schema}
use Rattle.doc_types.specs.declared.schema.AttrKind.{AttrKind}
use Rattle.group_facet.specs.declared.fold.Fold.{Fold}
use Rattle.group_facet.specs.declared.fold.Fold.TheVariants as folds
use Rattle.group_facet.specs.declared.shown.GroupColumn.{GroupColumn}
use Rattle.group_facet.specs.declared.shown.GroupColumn.TheVariants.{Best}
use Rattle.mysql_wire.specs.declared.rows.ColumnKind.{ColumnKind}
use Rattle.mysql_wire.specs.declared.rows.ColumnKind.TheVariants as kinds
use Rattle.ql_tree.specs.declared.select.SelectExpr.{SelectExpr}
use Rattle.ql_tree.specs.declared.select.SelectExpr.TheVariants as exprs
use Rattle.ql_tree.specs.declared.select.SelectItem.{SelectItem}
use Rattle.ql_tree.specs.declared.select.SelectItem.TheVariants as items
use Rattle.ql_columns.specs.Columns.{id_name}
use Rattle.row_select.specs.declared.row.ColumnRef.{ColumnRef}
use Rattle.row_select.specs.declared.row.ColumnRef.TheVariants as columns
use Rattle.ql_select.specs.declared.names.Source.{Source}
use Rattle.ql_select.specs.declared.names.Source.TheVariants as sources
use Rattle.ql_select.specs.declared.selection.Shown.{Shown}
use Rattle.ql_select.specs.Groups.{folds_in, source_column}
use Rattle.ql_select.specs.Names.{item_source}
use Rattle.ql_select.specs.Targets.{column_kind}

-- ---- kinds

-- how a value of a column is sent that was taken from several rows
abbrev pub wide_kind : ColumnRef → ColumnKind
wide_kind columns.Id = kinds.Unsigned
wide_kind (columns.Attr attr) = kinds.Whole
wide_kind columns.Weight = kinds.Unsigned

-- how what is grouped by is sent
abbrev pub key_kind : Option ColumnRef → ColumnKind
key_kind None = kinds.Whole
key_kind (Some column) = wide_kind column

-- how an aggregate is sent: a sum may have more than 64 bits, and is sent as a text
abbrev pub fold_kind : Fold → ColumnKind
fold_kind folds.Count = kinds.Unsigned
fold_kind (folds.Distinct column) = kinds.Unsigned
fold_kind (folds.Least column) = wide_kind column
fold_kind (folds.Greatest column) = wide_kind column
fold_kind (folds.Sum column) = kinds.Text

-- how an item is sent, where rows are grouped by this column
abbrev pub source_kind : Schema → Option ColumnRef → Source → ColumnKind
source_kind schema by sources.All = kinds.Unsigned
source_kind schema by (sources.Row column) = column_kind schema column
source_kind schema by sources.Key = key_kind by
source_kind schema by (sources.Folded fold) = fold_kind fold

-- ---- names

-- a function of a column in small letters
abbrev pub call_name : List ℕ → List ℕ → List ℕ
call_name function name = function ++ name ++ codes ")"

-- the name of an item without an alias: the item in small letters
abbrev pub own_name : SelectExpr → List ℕ
own_name (exprs.Column name) = name
own_name exprs.CountAll = codes "count(*)"
own_name (exprs.CountDistinct name) = call_name (codes "count(distinct ") name
own_name (exprs.Least name) = call_name (codes "min(") name
own_name (exprs.Greatest name) = call_name (codes "max(") name
own_name (exprs.Sum name) = call_name (codes "sum(") name
own_name exprs.Weight = codes "weight()"
own_name exprs.GroupBy = codes "groupby()"

-- ---- what is shown

-- a column under a name
abbrev pub shown_as : List ℕ → ColumnKind → GroupColumn → Shown
shown_as name kind from = record { column = record { name = name; kind = kind }; from = from }

-- a column of rows under a name
abbrev pub row_shown : Schema → List ℕ → ColumnRef → Shown
row_shown schema name column = shown_as name (column_kind schema column) (Best column)

-- an attribute, which comes with its number, under its own name
abbrev pub attr_shown : Schema → ℕ × (List ℕ × AttrKind) → Shown
attr_shown schema attr = row_shown schema attr.1.0 (columns.Attr attr.0)

-- what `*` shows: the id, and the attributes in schema order
abbrev pub all_shown : Schema → List Shown
all_shown schema = row_shown schema id_name columns.Id ∷ map (attr_shown schema) (enumerate_from 0 schema.attrs)

-- what an item shows that is the value of this, after so many aggregates
abbrev pub item_shown : Schema → Option ColumnRef → ℕ → Source → SelectItem → List Shown
item_shown schema by before source items.All = all_shown schema
item_shown schema by before source (items.One expr alias) =
    shown_as (unwrap_or alias (own_name expr)) (source_kind schema by source) (source_column before source) ∷ []

-- what a list shows after so many aggregates, column by column
abbrev pub shown_after : Schema → Option ColumnRef → ℕ → List SelectItem → List Shown
shown_after schema by before [] = []
shown_after schema by before (item ∷ list) =
    item_shown schema by before (item_source schema item) item
    ++ shown_after schema by (before + folds_in (item_source schema item ∷ [])) list

-- what the list of a SELECT shows
abbrev pub columns_shown : Schema → Option ColumnRef → List SelectItem → List Shown
columns_shown schema by list = shown_after schema by 0 list
