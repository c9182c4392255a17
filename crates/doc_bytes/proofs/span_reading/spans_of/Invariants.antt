use Rattle.std.proofs.Common.{◌≡◌, ◌-◌}
use Rattle.std.specs.Prelude.{Some}
use Rattle.byte_fields.specs.Fields.{many}
use Rattle.byte_fields.proofs.Looping.{with_front}
use Rattle.doc_bytes.specs.Reading.{span_at, spans_at}
use Rattle.doc_bytes.proofs.span_reading.spans_of.Given as goal

abbrev pub invariant-loop : goal.invariant-loop
invariant-loop l = with_front l.spans.items (many (span_at l.fields) Some (l.count - l.counter) l.before l.rest) ≡ spans_at l.fields l.count l.bytes
