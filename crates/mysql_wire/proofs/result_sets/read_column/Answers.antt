-- What the fields say is what is answered, once the name is copied.
use Rattle.std.proofs.Common.{ℕ, List, Result, Bor, subst}
use Rattle.std.proofs.lemmas.Result.{err_from_is_err_and}
use Rattle.srch_base.specs.declared.faults.Or.{Or}
use Rattle.mysql_wire.specs.declared.fields.WireFault.{WireFault}
use Rattle.mysql_wire.specs.declared.rows.Column.{Column}
use Rattle.mysql_wire.specs.declared.rows.ColumnKind.{ColumnKind}
use Rattle.mysql_wire.specs.Fields.{Reads}
use Rattle.mysql_wire.specs.Payloads.{column_fields}
use Rattle.mysql_wire.specs.steps.Layouts.{column_layout}
use Rattle.mysql_wire.proofs.ScanLaws.{reads, same_fault}
use Rattle.mysql_wire.proofs.LayoutLaws.{column_fits}
use Rattle.mysql_wire.proofs.result_sets.read_column.Goals as goal
use Rattle.mysql_wire.proofs.result_sets.read_column.Goals.{After-answer}

abbrev Parts : Type 0
Parts = Bor (List ℕ) × ColumnKind

abbrev view : Parts → Column
view parts = record { name = parts.0.now; kind = parts.1 }

-- the answer, name uncopied
told : (c : After-answer) → Reads view column_fields c.args.payload.now c.answer.result
told c = rw c.answer.ensures (reads column_layout column_fields column_fits view c.args.payload.now c.column_in.result c.column_in.ensures)

pub returns-in_err-name : goal.returns-in_err-name
returns-in_err-name c =
    let p = err_from_is_err_and c.from_residual.result c.from_residual.ensures.1 in
    let h = subst (λ (r : Result Parts (Or WireFault)). Reads view column_fields c.args.payload.now r) c.in_err-name.was (told (goal.at.returns-in_err-name c).After-answer) in
    rw (p.1, p.2) (same_fault view (λ (column : Column). column) column_fields c.args.payload.now c.in_err-name.field-0.0 h)

pub returns : goal.returns
returns c =
    let h = subst (λ (r : Result Parts (Or WireFault)). Reads view column_fields c.args.payload.now r) c.in_ok-name.was (told (goal.at.returns c).After-answer) in
    rw c.in_ok-name-2.ensures h
