use Rattle.std.proofs.lemmas.Result.{err_from_is_err_and}
use Rattle.byte_fields.proofs.Looping.{goes_on, ends, is_done}
use Rattle.root_slots.specs.Reading.{row_at, rows_at}
use Rattle.root_slots.specs.States.{after_row}
use Rattle.root_slots.proofs.reading.rows_of.Goals as goal

pub returns-in_err-row : goal.returns-in_err-row
returns-in_err-row c =
    let p = err_from_is_err_and c.from_residual.result c.from_residual.ensures.1 in
    rw (p.1, p.2) (ends row_at after_row c.in_err-row.field-0.0 c.loop.dead.items c.args.count c.loop.counter c.loop.low c.loop.rest.now (rows_at c.args.count 0 c.args.bytes.now) c.loop-test.true c.in_err-row.ensures c.loop.invariant)

pub loop-preserved : goal.loop-preserved
loop-preserved c =
    rw c.in_ok-push.ensures.items (goes_on row_at after_row c.loop.dead.items c.args.count c.loop.counter c.loop.low c.loop.rest.now c.in_ok-row.row c.in_ok-row.after.now (rows_at c.args.count 0 c.args.bytes.now) c.loop-test.true c.in_ok-row.ensures c.loop.invariant)

pub returns : goal.returns
returns c = is_done row_at after_row c.loop.dead.items c.args.count c.loop.counter c.loop.low c.loop.rest.now (rows_at c.args.count 0 c.args.bytes.now) c.loop-test.false c.loop.invariant
