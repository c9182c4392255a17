use Rattle.bit_lists.specs.BitLists.{bits_of}
use Rattle.std.proofs.Common.{arith}
use Rattle.image_marks.proofs.SpanReading.{spans_all, spans_more, spans_stop}
use Rattle.image_marks.proofs.spans.read_spans.Goals as goal

pub returns-in-None-span_behind : goal.returns-in-None-span_behind
returns-in-None-span_behind c =
    let n = c.in-Some.ensures in
    spans_stop c.args.own.now (bits_of c.args.taken.now) c.args.bytes.now c.args.at c.in-Some.read.0 c.in-Some.read.1 c.spans.place n.0 c.spans.before c.spans.counter n.1 n.2 c.spans.invariant c.spans-test.true c.in-None-span_behind.ensures

pub spans-preserved : goal.spans-preserved
spans-preserved c =
    let its = c.in-Some-span_behind.ensures in
    spans_more c.args.own.now (bits_of c.args.taken.now) c.args.bytes.now c.in-Some.read.1 c.spans.place c.in-Some-span_behind.end c.spans.before c.spans.counter c.in-Some-span_behind.span its.0 c.spans.invariant its.1 its.2

pub returns : goal.returns
returns c =
    let n = c.in-Some.ensures in
    spans_all c.args.own.now (bits_of c.args.taken.now) c.args.bytes.now c.args.at c.in-Some.read.0 c.in-Some.read.1 c.spans.place n.0 c.spans.before c.spans.counter n.1 n.2 c.spans.invariant (omega arith)
