-- Each value that is read is one more of the row; where none stands, the row ends or the payload is at fault.
use Rattle.std.proofs.Common.{◌≡◌, length, Some, sym, ◌∙◌, arith, rules}
use Rattle.std.specs.Option.{option_copied}
use Rattle.std.proofs.lemmas.Result.{err_from_is_err_and}
use Rattle.std.proofs.lemmas.Bool.{eqb-true, eqb-false}
use Rattle.mysql_wire.specs.steps.Scanning.{cell_at}
use Rattle.mysql_wire.proofs.ScanLaws.{answered, refused}
use Rattle.mysql_wire.proofs.RowLaws.{none_read, one_more_read, cell_shorter, whole_row, no_row}
use Rattle.mysql_wire.proofs.result_sets.read_row.Goals as goal
use Rattle.mysql_wire.proofs.result_sets.read_row.Goals.{In_ok-push}

pub loop-rest-init : goal.loop-rest-init
loop-rest-init c = rw c.new-row.ensures.items (none_read c.args.payload.now)

stands : (c : In_ok-push) → cell_at c.loop-rest.rest.now ≡ Some (option_copied c.in_ok-value.value, c.in_ok-value.after.now)
stands c = answered (λ x. (option_copied x.0, x.1.now)) c.args.payload.now c.loop-rest.rest.now (cell_at c.loop-rest.rest.now) c.cell.result (c.in_ok-value.value, c.in_ok-value.after) c.cell.ensures (sym c.answer.ensures ∙ c.in_ok-value.was)

pub returns-in_err-value : goal.returns-in_err-value
returns-in_err-value c =
    let p = err_from_is_err_and c.from_residual.result c.from_residual.ensures.1 in
    let r = refused (λ x. (option_copied x.0, x.1.now)) c.args.payload.now c.loop-rest.rest.now (cell_at c.loop-rest.rest.now) c.cell.result c.in_err-value.field-0.0 c.cell.ensures (sym c.answer.ensures ∙ c.in_err-value.was) in
    rw (p.1, p.2, r.1) (no_row c.loop-rest.row.items c.args.payload.now c.loop-rest.rest.now c.loop-rest.invariant r.0 (let apart = eqb-false (length c.loop-rest.rest.now) 0 (sym c.is_empty.ensures ∙ c.loop-rest-test.true) in omega (arith, apart)))

pub loop-rest-smaller : goal.loop-rest-smaller
loop-rest-smaller c = cell_shorter c.loop-rest.rest.now (option_copied c.in_ok-value.value) c.in_ok-value.after.now (stands c)

pub loop-rest-preserved : goal.loop-rest-preserved
loop-rest-preserved c =
    let more = one_more_read c.loop-rest.row.items c.args.payload.now c.loop-rest.rest.now (option_copied c.in_ok-value.value) c.in_ok-value.after.now c.loop-rest.invariant (stands c) in
    let value_is : c.in_ok-owned.field-0 ≡ option_copied c.in_ok-value.value = search rules in
    rw (c.in_ok-push.ensures.items, value_is) more

pub returns : goal.returns
returns c = whole_row c.loop-rest.row.items c.args.payload.now c.loop-rest.rest.now c.loop-rest.invariant (eqb-true (length c.loop-rest.rest.now) 0 (sym c.is_empty.ensures ∙ c.loop-rest-test.false))
