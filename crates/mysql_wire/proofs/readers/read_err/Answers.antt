-- What the fields say is what is answered, once the text is copied.
use Rattle.std.proofs.Common.{ℕ, List, Result, Bor, subst}
use Rattle.std.proofs.lemmas.Result.{err_from_is_err_and}
use Rattle.srch_base.specs.declared.faults.Or.{Or}
use Rattle.mysql_wire.specs.declared.fields.WireFault.{WireFault}
use Rattle.mysql_wire.specs.declared.readers.WireErr.{WireErr}
use Rattle.mysql_wire.specs.Fields.{Reads}
use Rattle.mysql_wire.specs.Payloads.{err_fields}
use Rattle.mysql_wire.specs.steps.Layouts.{err_layout}
use Rattle.mysql_wire.proofs.ScanLaws.{reads, same_fault}
use Rattle.mysql_wire.proofs.LayoutLaws.{err_fits}
use Rattle.mysql_wire.proofs.readers.read_err.Goals as goal
use Rattle.mysql_wire.proofs.readers.read_err.Goals.{After-answer}

abbrev Parts : Type 0
Parts = ℕ × List ℕ × Bor (List ℕ)

abbrev view : Parts → WireErr
view parts = record { code = parts.0; state = parts.1; text = parts.2.now }

-- the answer, text uncopied
told : (c : After-answer) → Reads view err_fields c.args.payload.now c.answer.result
told c = rw c.answer.ensures (reads err_layout err_fields err_fits view c.args.payload.now c.err_in.result c.err_in.ensures)

pub returns-in_err-code : goal.returns-in_err-code
returns-in_err-code c =
    let p = err_from_is_err_and c.from_residual.result c.from_residual.ensures.1 in
    let h = subst (λ (r : Result Parts (Or WireFault)). Reads view err_fields c.args.payload.now r) c.in_err-code.was (told (goal.at.returns-in_err-code c).After-answer) in
    rw (p.1, p.2) (same_fault view (λ (err : WireErr). err) err_fields c.args.payload.now c.in_err-code.field-0.0 h)

pub returns : goal.returns
returns c =
    let h = subst (λ (r : Result Parts (Or WireFault)). Reads view err_fields c.args.payload.now r) c.in_ok-code.was (told (goal.at.returns c).After-answer) in
    rw c.in_ok-text.ensures h
