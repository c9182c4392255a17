use Rattle.std.proofs.Common.{◌≡◌, ◌+◌, [], ◌∷◌, ◌++◌, length, arith, take, drop, rules, ◌∙◌}
use Rattle.std.specs.List.{flat_map}
use Rattle.chunk_image.specs.Marks.{span_numbers}
use Rattle.image_parts.proofs.FieldSteps.{front_kept}
use Rattle.image_parts.proofs.SpanSteps.{span_step, spans_all, spans_more, spans_none}
use Rattle.image_parts.proofs.marks.put_counted_spans.Goals as goal

pub next_number-count-requires : goal.next_number-count-requires
next_number-count-requires c = let r = c.requires in (length r.0, flat_map span_numbers r.0, r.1)

pub spans-init : goal.spans-init
spans-init c = λ all are roomy. spans_none c.args.bytes.now all c.args.into.now.items _ _ (c.next_number-count.ensures (length all) (flat_map span_numbers all) are)

pub span_at-next-requires : goal.span_at-next-requires
span_at-next-requires c =
    let r = c.requires in
    let s = span_step c.args.bytes.now r.0 c.args.into.now.items c.spans.into.items c.spans.place _ c.spans.counter (c.spans.invariant r.0 r.1 r.2) r.2 (omega arith) in
    (s.span.one, flat_map span_numbers (drop (c.spans.counter + 1) r.0), s.numbers, s.roomy)

pub spans-preserved : goal.spans-preserved
spans-preserved c = λ all are roomy.
    let was = c.spans.invariant all are roomy in
    let s = span_step c.args.bytes.now all c.args.into.now.items c.spans.into.items c.spans.place _ c.spans.counter was roomy (omega arith) in
    let pushed : c.push.new.self.items ≡ c.spans.into.items ++ c.span_at-next.result.0 ∷ [] = search rules in
    spans_more c.args.bytes.now all c.args.into.now.items c.spans.into.items c.push.new.self.items c.spans.place c.span_at-next.result.1 _ c.spans.counter c.span_at-next.result.0 was s (c.span_at-next.ensures _ _ s.numbers s.roomy) pushed

pub returns-in_err-push-clause-front : goal.returns-in_err-push-clause-front
returns-in_err-push-clause-front c =
    let r = c.requires in
    let stays : c.push.new.self.items ≡ c.spans.into.items = search rules in
    front_kept c.args.into.now.items (take c.spans.counter r.0) c.push.new.self.items (stays ∙ (c.spans.invariant r.0 r.1 r.2).grown)

pub returns-clause-ok : goal.returns-clause-ok
returns-clause-ok c = λ all are roomy. spans_all c.args.bytes.now all c.args.into.now.items c.spans.into.items c.spans.place _ c.spans.counter (c.spans.invariant all are roomy) c.spans-test.false

pub returns-clause-front : goal.returns-clause-front
returns-clause-front c =
    let r = c.requires in
    front_kept c.args.into.now.items (take c.spans.counter r.0) c.spans.into.items (c.spans.invariant r.0 r.1 r.2).grown
