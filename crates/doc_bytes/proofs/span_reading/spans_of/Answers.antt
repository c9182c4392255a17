use Rattle.std.specs.Prelude.{Some}
use Rattle.std.proofs.lemmas.Result.{err_from_is_err_and}
use Rattle.byte_fields.proofs.Looping.{ends, goes_on, is_done}
use Rattle.doc_bytes.specs.Reading.{span_at, spans_at}
use Rattle.doc_bytes.proofs.span_reading.spans_of.Goals as goal

pub returns-in_err-span : goal.returns-in_err-span
returns-in_err-span c =
    let p = err_from_is_err_and c.from_residual.result c.from_residual.ensures.1 in
    rw (p.1, p.2) (ends (span_at c.args.fields.now) Some c.in_err-span.field-0.0 c.loop.spans.items c.args.count c.loop.counter c.loop.before c.loop.rest.now (spans_at c.args.fields.now c.args.count c.args.bytes.now) c.loop-test.true c.in_err-span.ensures c.loop.invariant)

pub loop-preserved : goal.loop-preserved
loop-preserved c =
    rw c.in_ok-push.ensures.items (goes_on (span_at c.args.fields.now) Some c.loop.spans.items c.args.count c.loop.counter c.loop.before c.loop.rest.now c.in_ok-span.span c.in_ok-span.after.now (spans_at c.args.fields.now c.args.count c.args.bytes.now) c.loop-test.true c.in_ok-span.ensures c.loop.invariant)

pub returns : goal.returns
returns c = is_done (span_at c.args.fields.now) Some c.loop.spans.items c.args.count c.loop.counter c.loop.before c.loop.rest.now (spans_at c.args.fields.now c.args.count c.args.bytes.now) c.loop-test.false c.loop.invariant
