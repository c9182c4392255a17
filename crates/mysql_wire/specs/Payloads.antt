-- The fields of each payload that a client reads, with what they hold.
use Rattle.std.specs.Prelude.{ℕ, List, [], ◌∷◌, ◌++◌, map, replicate, codes, Option, Some, None}
use Rattle.std.specs.Int.{w16, w32, to_le_bytes}
use Rattle.mysql_wire.specs.declared.rows.Column.{Column}
use Rattle.mysql_wire.specs.declared.readers.WireGreeting.{WireGreeting}
use Rattle.mysql_wire.specs.declared.readers.WireOk.{WireOk}
use Rattle.mysql_wire.specs.declared.readers.WireErr.{WireErr}
use Rattle.mysql_wire.specs.declared.readers.WireEof.{WireEof}
use Rattle.mysql_wire.specs.declared.rows.Cell.{Cell}
use Rattle.mysql_wire.specs.Rows.{ColumnType, type_of, cell_text}
use Rattle.mysql_wire.specs.Fields.{Field, Exactly, Sized, Plain, Number, Lengthed}

-- one number, and nothing else
abbrev pub number_fields : ℕ → List Field
number_fields n = Number n ∷ []

-- the greeting: of its fields only the connection's number may differ
abbrev pub greeting_fields : WireGreeting → List Field
greeting_fields greeting =
    Exactly (10 ∷ []) ∷ Exactly (codes "2.2.11-rt1" ++ 0 ∷ [])
    ∷ Plain 4 greeting.connection
    ∷ Exactly (1 ∷ 2 ∷ 3 ∷ 4 ∷ 5 ∷ 6 ∷ 7 ∷ 8 ∷ []) ∷ Exactly (0 ∷ [])
    ∷ Exactly (0x09 ∷ 0xa2 ∷ []) ∷ Exactly (0x21 ∷ []) ∷ Exactly (2 ∷ 0 ∷ []) ∷ Exactly (0x0b ∷ 0 ∷ []) ∷ Exactly (0x15 ∷ []) ∷ Exactly (replicate 10 0)
    ∷ Exactly (9 ∷ 10 ∷ 11 ∷ 12 ∷ 13 ∷ 14 ∷ 15 ∷ 16 ∷ 17 ∷ 18 ∷ 19 ∷ 20 ∷ 0 ∷ [])
    ∷ Exactly (codes "mysql_native_password" ++ 0 ∷ []) ∷ []

-- the rows affected, the last insert id 0, the status, no warnings
abbrev pub ok_fields : WireOk → List Field
ok_fields ok = Exactly (0x00 ∷ []) ∷ Number ok.affected ∷ Number 0 ∷ Plain 2 ok.status ∷ Exactly (0 ∷ 0 ∷ []) ∷ []

-- the code, the SQL state after its mark, the text to the end
abbrev pub err_fields : WireErr → List Field
err_fields err = Exactly (0xff ∷ []) ∷ Plain 2 err.code ∷ Exactly (0x23 ∷ []) ∷ Sized 5 err.state ∷ Exactly err.text ∷ []

-- no warnings, the status
abbrev pub eof_fields : WireEof → List Field
eof_fields eof = Exactly (0xfe ∷ []) ∷ Exactly (0 ∷ 0 ∷ []) ∷ Plain 2 eof.status ∷ []

-- the fields of a type: the character set, the longest value, the type's code, its flags
abbrev pub type_fields : ColumnType → List Field
type_fields type = Exactly (to_le_bytes w16 type.charset) ∷ Exactly (to_le_bytes w32 type.longest) ∷ Exactly (type.code ∷ []) ∷ Exactly (to_le_bytes w16 type.flags) ∷ []

-- the catalog, an empty schema and two empty tables' names, the name twice, how long the fixed fields are, the type, no decimals, two bytes left free
abbrev pub column_fields : Column → List Field
column_fields column =
    Exactly (3 ∷ codes "def") ∷ Lengthed [] ∷ Lengthed [] ∷ Lengthed []
    ∷ Lengthed column.name ∷ Lengthed column.name
    ∷ Exactly (0x0c ∷ []) ∷ type_fields (type_of column.kind)
    ++ Exactly (0 ∷ []) ∷ Exactly (0 ∷ 0 ∷ []) ∷ []

-- a text after its length, or the mark of NULL
abbrev pub cell_field : Option (List ℕ) → Field
cell_field None = Exactly (0xfb ∷ [])
cell_field (Some text) = Lengthed text

-- as many as the payload has
abbrev pub row_fields : List (Option (List ℕ)) → List Field
row_fields cells = map cell_field cells

-- what a value that is written is read as
abbrev pub value_of : Cell → Option (List ℕ)
value_of cell = Some (cell_text cell)
