-- The columns of numbers: the id and the attributes.
use Rattle.std.specs.Prelude.{ℕ, List, Option, Some, None}
use Rattle.doc_types.specs.declared.schema.AttrKind.{AttrKind}
use Rattle.doc_types.specs.declared.schema.AttrKind.TheVariants as attr_kinds
use Rattle.doc_types.specs.declared.schema.Schema.{Schema}
use Rattle.mysql_wire.specs.declared.rows.ColumnKind.{ColumnKind}
use Rattle.mysql_wire.specs.declared.rows.ColumnKind.TheVariants as kinds
use Rattle.ql_columns.specs.declared.columns.IndexColumn.{IndexColumn}
use Rattle.ql_columns.specs.declared.columns.IndexColumn.TheVariants as targets
use Rattle.ql_columns.specs.Columns.{column_named, kind_of}
use Rattle.row_select.specs.declared.row.ColumnRef.{ColumnRef}
use Rattle.row_select.specs.declared.row.ColumnRef.TheVariants as columns

-- The column of numbers that a name means. A SELECT with a name that means none is refused; it counts as the id here.
abbrev pub numbers_in : Option IndexColumn → ColumnRef
numbers_in (Some targets.Id) = columns.Id
numbers_in (Some (targets.Field field)) = columns.Id
numbers_in (Some (targets.Attr attr)) = columns.Attr attr
numbers_in None = columns.Id

abbrev pub column_of : Schema → List ℕ → ColumnRef
column_of schema name = numbers_in (column_named schema name)

-- how an attribute's values are sent
abbrev pub attr_kind : AttrKind → ColumnKind
attr_kind attr_kinds.Uint = kinds.Uint
attr_kind attr_kinds.Bool = kinds.Uint
attr_kind attr_kinds.Bigint = kinds.Whole
attr_kind attr_kinds.Timestamp = kinds.Uint

-- how the values of a column are sent: ids and weights as unsigned numbers of 64 bits
abbrev pub column_kind : Schema → ColumnRef → ColumnKind
column_kind schema columns.Id = kinds.Unsigned
column_kind schema (columns.Attr attr) = attr_kind (kind_of schema attr)
column_kind schema columns.Weight = kinds.Unsigned
