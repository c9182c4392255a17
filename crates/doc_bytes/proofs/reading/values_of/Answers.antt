use Rattle.std.proofs.lemmas.Result.{err_from_is_err_and}
use Rattle.byte_fields.specs.Fields.{each}
use Rattle.byte_fields.proofs.Looping.{ends, goes_on, is_done}
use Rattle.doc_types.specs.declared.schema.Value.{Value as AnyValue}
use Rattle.doc_bytes.specs.Reading.{value_at}
use Rattle.doc_bytes.proofs.reading.values_of.Goals as goal

pub returns-in_err-value : goal.returns-in_err-value
returns-in_err-value c =
    let p = err_from_is_err_and c.from_residual.result c.from_residual.ensures.1 in
    rw (p.1, p.2) (ends (λ (_ : Unit {0}). value_at) (λ (_ : AnyValue). tt {0}) c.in_err-value.field-0.0 c.loop.values.items c.args.count c.loop.counter tt c.loop.rest.now (each value_at c.args.count c.args.bytes.now) c.loop-test.true c.in_err-value.ensures c.loop.invariant)

pub loop-preserved : goal.loop-preserved
loop-preserved c =
    rw c.in_ok-push.ensures.items (goes_on (λ (_ : Unit {0}). value_at) (λ (_ : AnyValue). tt {0}) c.loop.values.items c.args.count c.loop.counter tt c.loop.rest.now c.in_ok-value.value c.in_ok-value.after.now (each value_at c.args.count c.args.bytes.now) c.loop-test.true c.in_ok-value.ensures c.loop.invariant)

pub returns : goal.returns
returns c = is_done (λ (_ : Unit {0}). value_at) (λ (_ : AnyValue). tt {0}) c.loop.values.items c.args.count c.loop.counter tt c.loop.rest.now (each value_at c.args.count c.args.bytes.now) c.loop-test.false c.loop.invariant
