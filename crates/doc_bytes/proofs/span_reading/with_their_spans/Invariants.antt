use Rattle.std.proofs.Common.{◌≡◌, ◌++◌, length}
use Rattle.doc_bytes.specs.Reading.{with_spans}
use Rattle.doc_bytes.proofs.span_reading.with_their_spans.Given as goal

abbrev pub invariant-fields : goal.invariant-fields
invariant-fields l = l.made.items ++ with_spans (length l.made.items) l.words-iterator.rest.items l.rest ≡ with_spans 0 l.fn.fields.items l.fn.spans
