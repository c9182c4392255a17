use Rattle.std.proofs.Common.{◌≡◌, take}
use Rattle.doc_bytes.specs.Payload.{span_count}
use Rattle.doc_bytes.proofs.writing.count_spans.Given as goal

abbrev pub invariant-loop-field : goal.invariant-loop-field
invariant-loop-field l = l.count ≡ span_count (take l.field-index l.fields)
