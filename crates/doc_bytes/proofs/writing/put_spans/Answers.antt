-- What stood before stays in front of a part that isn't whole.
use Rattle.std.proofs.Common.{rules, take, vec_len}
use Rattle.std.specs.List.{flat_map}
use Rattle.doc_bytes.specs.Payload.{span_bytes}
use Rattle.doc_bytes.proofs.Joining.{front_stays}
use Rattle.doc_bytes.proofs.writing.put_spans.Goals as goal

pub returns-in_err-put_span-clause-front : goal.returns-in_err-put_span-clause-front
returns-in_err-put_span-clause-front c =
    front_stays c.args.out.now.items (flat_map (span_bytes c.args.field) (take c.loop-span.span-index c.args.spans.now)) c.loop-span.out.items c.put_span.new.out.items (vec_len c.args.out.now) (vec_len c.loop-span.out) (search rules) c.loop-span.invariant c.put_span.ensures.front
