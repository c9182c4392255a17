-- The parts of a result set: "Protocol::ColumnDefinition41" and "Text Resultset Row".
use Rattle.std.specs.Prelude.{ℕ, List, [], ◌∷◌, ◌++◌, codes}
use Rattle.std.specs.List.{flat_map}
use Rattle.std.specs.Int.{w16, w32, to_le_bytes}
use Rattle.std.specs.Fmt.{signed_decimal}
use Rattle.mysql_wire.specs.LengthEncoded.{lenenc_text}
use Rattle.mysql_wire.specs.declared.rows.Column.{Column}
use Rattle.mysql_wire.specs.declared.rows.ColumnKind.{ColumnKind}
use Rattle.mysql_wire.specs.declared.rows.ColumnKind.TheVariants.{Uint, Whole, Unsigned, Text}
use Rattle.mysql_wire.specs.declared.rows.Cell.{Cell}
use Rattle.mysql_wire.specs.declared.rows.Cell.TheVariants as cells

-- what a client is told of a type
pub record ColumnType : Type 0 where
  pub charset : ℕ
  pub longest : ℕ
  pub code : ℕ
  pub flags : ℕ

-- character set 33 is UTF-8, 63 binary; type 3 is LONG, 8 LONGLONG, 253 VAR_STRING; flag 32 is unsigned
abbrev pub type_of : ColumnKind → ColumnType
type_of Uint = record { charset = 0x3f; longest = 11; code = 0x03; flags = 0x20 }
type_of Whole = record { charset = 0x3f; longest = 20; code = 0x08; flags = 0 }
type_of Unsigned = record { charset = 0x3f; longest = 20; code = 0x08; flags = 0x20 }
type_of Text = record { charset = 0x21; longest = 255; code = 0xfd; flags = 0 }

abbrev pub type_bytes : ColumnType → List ℕ
type_bytes type = to_le_bytes w16 type.charset ++ to_le_bytes w32 type.longest ++ type.code ∷ to_le_bytes w16 type.flags

-- the catalog, an empty schema and two empty tables' names, the name twice, how long the fixed fields are, these, no decimals, two bytes left free
unfoldable pub column_payload : Column → List ℕ
column_payload column =
    lenenc_text (codes "def") ++ 0 ∷ 0 ∷ 0 ∷ []
    ++ lenenc_text column.name ++ lenenc_text column.name
    ++ 0x0c ∷ type_bytes (type_of column.kind) ++ 0 ∷ 0 ∷ 0 ∷ []

-- the text that stands for a value
abbrev pub cell_text : Cell → List ℕ
cell_text (cells.Whole number) = signed_decimal number
cell_text (cells.Text text) = text

unfoldable pub row_payload : List Cell → List ℕ
row_payload row = flat_map (λ cell. lenenc_text (cell_text cell)) row
