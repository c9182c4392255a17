-- The layouts allow the fields of each payload, and no others.
use Rattle.std.proofs.Common.{◌≡◌, ℕ, List, [], ◌∷◌, ◌++◌, refl, ap, subst, inl, inr}
use Rattle.mysql_wire.specs.declared.rows.Column.{Column}
use Rattle.mysql_wire.specs.declared.rows.ColumnKind.{ColumnKind}
use Rattle.mysql_wire.specs.declared.rows.ColumnKind.TheVariants.{Uint, Whole, Unsigned, Text}
use Rattle.mysql_wire.specs.Fields.{Field, Exactly}
use Rattle.mysql_wire.specs.Payloads.{number_fields, greeting_fields, ok_fields, err_fields, eof_fields, type_fields, column_fields}
use Rattle.mysql_wire.specs.Rows.{type_of}
use Rattle.mysql_wire.specs.steps.Scanning.{known_at}
use Rattle.mysql_wire.specs.steps.Layouts.{number_layout, greeting_layout, capabilities_layout, plugin_layout, ok_layout, err_layout, eof_layout, long_layout, binary_layout, type_layout, column_layout}
use Rattle.mysql_wire.proofs.ScanLaws.{Path, IsClear, Fits}

pub number_fits : Fits number_layout number_fields
unfolding number_layout
number_fits = record {
  clear = λ n. tt;
  allowed = λ n. (n, _, refl, (refl, refl));
  only = λ some value p. cc;
}

pub greeting_fits : Fits greeting_layout greeting_fields
unfolding greeting_layout capabilities_layout plugin_layout
greeting_fits = record {
  clear = λ connection. tt;
  allowed = λ greeting. (_, refl, (_, refl, (greeting.connection, _, refl, (_, refl, (_, refl, (_, refl, (_, refl, (_, refl, (_, refl, (_, refl, (_, refl, (_, refl, (_, refl, (refl, refl))))))))))))));
  only = λ some value p. cc;
}

pub ok_fits : Fits ok_layout ok_fields
unfolding ok_layout
ok_fits = record {
  clear = λ affected status. tt;
  allowed = λ ok. (_, refl, (ok.affected, _, refl, (_, refl, (ok.status, _, refl, (_, refl, (refl, refl))))));
  only = λ some value p. cc;
}

pub err_fits : Fits err_layout err_fields
unfolding err_layout
err_fits = record {
  clear = λ code state. tt;
  allowed = λ err. (_, refl, (err.code, _, refl, (_, refl, (err.state, _, refl, (err.text, refl, refl)))));
  only = λ some value p. cc;
}

pub eof_fits : Fits eof_layout eof_fields
unfolding eof_layout
eof_fits = record {
  clear = λ status. tt;
  allowed = λ eof. (_, refl, (_, refl, (eof.status, _, refl, (refl, refl))));
  only = λ some value p. cc;
}

-- ---- a column, kind by kind

-- what stands from the type on
abbrev type_end : ColumnKind → List Field
type_end kind = type_fields (type_of kind) ++ Exactly (0 ∷ []) ∷ Exactly (0 ∷ 0 ∷ []) ∷ []

type_allowed : (name : List ℕ) (kind : ColumnKind) → Path (type_layout name) (type_end kind) (record { name = name; kind = kind })
unfolding type_layout binary_layout long_layout
type_allowed name Uint = inl (_, refl, inl (_, refl, (_, refl, (_, refl, (_, refl, (_, refl, (refl, refl)))))))
type_allowed name Whole = inl (_, refl, inr (_, refl, (_, refl, inl (_, refl, (_, refl, (_, refl, (refl, refl)))))))
type_allowed name Unsigned = inl (_, refl, inr (_, refl, (_, refl, inr (_, refl, (_, refl, (_, refl, (refl, refl)))))))
type_allowed name Text = inr (_, refl, (_, refl, (_, refl, (_, refl, (_, refl, (_, refl, (refl, refl)))))))

abbrev made : List ℕ → ColumnKind → Column
made name kind = record { name = name; kind = kind }

type_is : (name : List ℕ) (kind : ColumnKind) (some : List Field) (column : Column) → made name kind ≡ column → some ≡ type_end kind → (some ≡ type_end column.kind) × (column.name ≡ name)
type_is name kind some column e is = subst (λ (c : Column). (some ≡ type_end c.kind) × (c.name ≡ name)) e (is, refl)

type_only : (name : List ℕ) (some : List Field) (column : Column) → Path (type_layout name) some column → (some ≡ type_end column.kind) × (column.name ≡ name)
unfolding type_layout binary_layout long_layout
type_only name some column path =
    elim path [
      | inl binary ↦ elim binary.2 [
        | inl uint ↦ type_is name Uint some column uint.2.2.2.2.2.1 (rw (binary.1, uint.1, uint.2.1, uint.2.2.1, uint.2.2.2.1, uint.2.2.2.2.1, uint.2.2.2.2.2.0) refl)
        | inr long ↦ elim long.2.2 [
          | inl whole ↦ type_is name Whole some column whole.2.2.2.1 (rw (binary.1, long.1, long.2.1, whole.1, whole.2.1, whole.2.2.1, whole.2.2.2.0) refl)
          | inr unsigned ↦ type_is name Unsigned some column unsigned.2.2.2.1 (rw (binary.1, long.1, long.2.1, unsigned.1, unsigned.2.1, unsigned.2.2.1, unsigned.2.2.2.0) refl)
        ]
      ]
      | inr text ↦ type_is name Text some column text.2.2.2.2.2.2.1 (rw (text.1, text.2.1, text.2.2.1, text.2.2.2.1, text.2.2.2.2.1, text.2.2.2.2.2.1, text.2.2.2.2.2.2.0) refl)
    ]

type_clear : (name : List ℕ) → IsClear (type_layout name)
unfolding type_layout binary_layout long_layout
type_clear name = (
  λ part rest is. ap (λ (p : List ℕ). known_at (Exactly (0x3f ∷ 0 ∷ [])) (p ++ rest)) is,
  (
    λ part rest is. ap (λ (p : List ℕ). known_at (Exactly (11 ∷ 0 ∷ 0 ∷ 0 ∷ [])) (p ++ rest)) is,
    tt,
    (λ part rest is. ap (λ (p : List ℕ). known_at (Exactly (0 ∷ 0 ∷ [])) (p ++ rest)) is, tt, tt),
  ),
  tt,
)

pub column_fits : Fits column_layout column_fields
unfolding column_layout
column_fits = record {
  clear = λ name. type_clear name;
  allowed = λ column. (_, refl, (_, refl, (_, refl, (_, refl, (column.name, _, refl, (_, refl, (_, refl, type_allowed column.name column.kind)))))));
  only = λ some value p. let t = type_only _ _ value p.2.2.2.2.3.2.2 in cc;
}
