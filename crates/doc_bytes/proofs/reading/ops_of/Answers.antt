use Rattle.std.specs.Prelude.{length}
use Rattle.std.proofs.lemmas.Result.{err_from_is_err_and}
use Rattle.byte_fields.specs.Fields.{each}
use Rattle.byte_fields.proofs.Looping.{ends, goes_on, is_done}
use Rattle.doc_types.specs.declared.transactions.TxnOp.{TxnOp as AnyOp}
use Rattle.doc_bytes.specs.Reading.{op_at}
use Rattle.doc_bytes.proofs.reading.ops_of.Goals as goal

pub returns-in_err-op : goal.returns-in_err-op
returns-in_err-op c =
    let p = err_from_is_err_and c.from_residual.result c.from_residual.ensures.1 in
    rw (p.1, p.2) (ends (λ (_ : Unit {0}). op_at (length c.args.schema.now.fields) (length c.args.schema.now.attrs)) (λ (_ : AnyOp). tt {0}) c.in_err-op.field-0.0 c.loop.ops.items c.args.count c.loop.counter tt c.loop.rest.now (each (op_at (length c.args.schema.now.fields) (length c.args.schema.now.attrs)) c.args.count c.args.bytes.now) c.loop-test.true c.in_err-op.ensures c.loop.invariant)

pub loop-preserved : goal.loop-preserved
loop-preserved c =
    rw c.in_ok-push.ensures.items (goes_on (λ (_ : Unit {0}). op_at (length c.args.schema.now.fields) (length c.args.schema.now.attrs)) (λ (_ : AnyOp). tt {0}) c.loop.ops.items c.args.count c.loop.counter tt c.loop.rest.now c.in_ok-op.op c.in_ok-op.after.now (each (op_at (length c.args.schema.now.fields) (length c.args.schema.now.attrs)) c.args.count c.args.bytes.now) c.loop-test.true c.in_ok-op.ensures c.loop.invariant)

pub returns : goal.returns
returns c = is_done (λ (_ : Unit {0}). op_at (length c.args.schema.now.fields) (length c.args.schema.now.attrs)) (λ (_ : AnyOp). tt {0}) c.loop.ops.items c.args.count c.loop.counter tt c.loop.rest.now (each (op_at (length c.args.schema.now.fields) (length c.args.schema.now.attrs)) c.args.count c.args.bytes.now) c.loop-test.false c.loop.invariant
