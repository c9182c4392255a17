-- A document as a row, and what a row holds in a column.
use Rattle.std.specs.Prelude.{ℕ, ℤ, pos, List, [], Option, Some, None, slice_get}
use Rattle.std.specs.Option.{option_map_or}
use Rattle.doc_types.specs.declared.documents.DocRow.{DocRow}
use Rattle.doc_types.specs.declared.schema.Value.{Value}
use Rattle.doc_types.specs.declared.schema.Value.TheVariants.{Whole}
use Rattle.row_select.specs.declared.row.Row.{Row}
use Rattle.row_select.specs.declared.row.ColumnRef.{ColumnRef}
use Rattle.row_select.specs.declared.row.ColumnRef.TheVariants as columns

-- the number of an attribute; 0 where a row has no such attribute
abbrev pub attr_number : Option Value → ℤ
attr_number None = pos 0
attr_number (Some (Whole number)) = number

-- what a row holds in a column, as a whole number
abbrev pub column_value : ColumnRef → Row → ℤ
column_value columns.Id row = pos row.id
column_value (columns.Attr place) row = attr_number (slice_get row.values place)
column_value columns.Weight row = pos row.weight

-- a document as the row of this weight
abbrev pub row_of : ℕ → DocRow → Row
row_of weight doc = record { id = doc.doc.id; weight = weight; values = doc.doc.values }

-- that of one of some documents
abbrev pub row_at : ℕ → List DocRow → ℕ → Row
row_at weight docs number = option_map_or (row_of weight) (slice_get docs number) (record { id = 0; weight = weight; values = [] })
