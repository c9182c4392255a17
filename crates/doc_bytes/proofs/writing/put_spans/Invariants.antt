use Rattle.std.proofs.Common.{◌≡◌, ◌++◌, take}
use Rattle.std.specs.List.{flat_map}
use Rattle.doc_bytes.specs.Payload.{span_bytes}
use Rattle.doc_bytes.proofs.writing.put_spans.Given as goal

abbrev pub invariant-loop-span : goal.invariant-loop-span
invariant-loop-span l = l.out.items ≡ l.fn.out.items ++ flat_map (span_bytes l.field) (take l.span-index l.spans)
