use Rattle.std.proofs.Common.{◌≡◌, ◌++◌, take}
use Rattle.std.specs.Int.{w32, to_le_bytes}
use Rattle.doc_bytes.specs.Payload.{span_count, spans_bytes}
use Rattle.doc_bytes.proofs.writing.put_all_spans.Given as goal

abbrev pub invariant-loop-number : goal.invariant-loop-number
invariant-loop-number l = l.out.items ≡ l.fn.out.items ++ (to_le_bytes w32 (span_count l.fields) ++ spans_bytes 0 (take l.number l.fields))
