use Rattle.std.proofs.Common.{◌≡◌, map, take}
use Rattle.doc_bytes.proofs.span_reading.without_field.Given as goal

abbrev pub invariant-loop-span : goal.invariant-loop-span
invariant-loop-span l = l.own.items ≡ map (λ span. span.1) (take l.span-index l.spans)
