-- Which fields each payload has, as its reader goes through them.
use Rattle.std.specs.Prelude.{ℕ, List, [], ◌∷◌, ◌++◌, codes, replicate}
use Rattle.mysql_wire.specs.declared.rows.Column.{Column}
use Rattle.mysql_wire.specs.declared.rows.ColumnKind.TheVariants.{Uint, Whole, Unsigned, Text}
use Rattle.mysql_wire.specs.declared.readers.WireGreeting.{WireGreeting}
use Rattle.mysql_wire.specs.declared.readers.WireOk.{WireOk}
use Rattle.mysql_wire.specs.declared.readers.WireErr.{WireErr}
use Rattle.mysql_wire.specs.declared.readers.WireEof.{WireEof}
use Rattle.mysql_wire.specs.Fields.{Exactly, Number, Lengthed}
use Rattle.mysql_wire.specs.steps.Scanning.{Layout, Done, Known, Either, SizedBytes, PlainNumber, AnyNumber, AnyText, Rest}

unfoldable pub number_layout : Layout ℕ
number_layout = AnyNumber (λ n. Done n)

unfoldable pub plugin_layout : ℕ → Layout WireGreeting
plugin_layout connection =
    Known (Exactly (0x15 ∷ [])) (Known (Exactly (replicate 10 0))
    (Known (Exactly (9 ∷ 10 ∷ 11 ∷ 12 ∷ 13 ∷ 14 ∷ 15 ∷ 16 ∷ 17 ∷ 18 ∷ 19 ∷ 20 ∷ 0 ∷ []))
    (Known (Exactly (codes "mysql_native_password" ++ 0 ∷ []))
    (Done (record { connection = connection })))))

unfoldable pub capabilities_layout : ℕ → Layout WireGreeting
capabilities_layout connection =
    Known (Exactly (1 ∷ 2 ∷ 3 ∷ 4 ∷ 5 ∷ 6 ∷ 7 ∷ 8 ∷ [])) (Known (Exactly (0 ∷ []))
    (Known (Exactly (0x09 ∷ 0xa2 ∷ [])) (Known (Exactly (0x21 ∷ [])) (Known (Exactly (2 ∷ 0 ∷ [])) (Known (Exactly (0x0b ∷ 0 ∷ [])) (plugin_layout connection))))))

unfoldable pub greeting_layout : Layout WireGreeting
greeting_layout = Known (Exactly (10 ∷ [])) (Known (Exactly (codes "2.2.11-rt1" ++ 0 ∷ [])) (PlainNumber 4 (λ connection. capabilities_layout connection)))

unfoldable pub ok_layout : Layout WireOk
ok_layout = Known (Exactly (0x00 ∷ [])) (AnyNumber (λ affected. Known (Number 0) (PlainNumber 2 (λ status. Known (Exactly (0 ∷ 0 ∷ [])) (Done (record { affected = affected; status = status }))))))

unfoldable pub err_layout : Layout WireErr
err_layout = Known (Exactly (0xff ∷ [])) (PlainNumber 2 (λ code. Known (Exactly (0x23 ∷ [])) (SizedBytes 5 (λ state. Rest (λ text. record { code = code; state = state; text = text })))))

unfoldable pub eof_layout : Layout WireEof
eof_layout = Known (Exactly (0xfe ∷ [])) (Known (Exactly (0 ∷ 0 ∷ [])) (PlainNumber 2 (λ status. Done (record { status = status }))))

-- what follows a column's type
abbrev pub after_type : Column → Layout Column
after_type column = Known (Exactly (0 ∷ [])) (Known (Exactly (0 ∷ 0 ∷ [])) (Done column))

unfoldable pub long_layout : List ℕ → Layout Column
long_layout name =
    Known (Exactly (0x08 ∷ []))
    (Either (Exactly (0 ∷ 0 ∷ [])) (after_type (record { name = name; kind = Whole }))
    (Exactly (0x20 ∷ 0 ∷ [])) (after_type (record { name = name; kind = Unsigned })))

unfoldable pub binary_layout : List ℕ → Layout Column
binary_layout name =
    Either (Exactly (11 ∷ 0 ∷ 0 ∷ 0 ∷ [])) (Known (Exactly (0x03 ∷ [])) (Known (Exactly (0x20 ∷ 0 ∷ [])) (after_type (record { name = name; kind = Uint }))))
    (Exactly (20 ∷ 0 ∷ 0 ∷ 0 ∷ [])) (long_layout name)

unfoldable pub type_layout : List ℕ → Layout Column
type_layout name =
    Either (Exactly (0x3f ∷ 0 ∷ [])) (binary_layout name)
    (Exactly (0x21 ∷ 0 ∷ [])) (Known (Exactly (255 ∷ 0 ∷ 0 ∷ 0 ∷ [])) (Known (Exactly (0xfd ∷ [])) (Known (Exactly (0 ∷ 0 ∷ [])) (after_type (record { name = name; kind = Text })))))

unfoldable pub column_layout : Layout Column
column_layout =
    Known (Exactly (3 ∷ codes "def")) (Known (Lengthed []) (Known (Lengthed []) (Known (Lengthed [])
    (AnyText (λ name. Known (Lengthed name) (Known (Exactly (0x0c ∷ [])) (type_layout name)))))))
