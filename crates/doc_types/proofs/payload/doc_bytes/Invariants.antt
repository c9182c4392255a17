use Rattle.std.proofs.Common.{◌≡◌, ◌+◌, ◌*◌, ◌-◌, ◌^◌, min, take, length}
use Rattle.std.specs.List.{sum_by}
use Rattle.doc_types.specs.Payloads.{field_length}
use Rattle.doc_types.proofs.payload.doc_bytes.Given as goal

abbrev pub invariant-loop-field : goal.invariant-loop-field
invariant-loop-field l = l.bytes ≡ min (12 + 8 * length l.doc.values + sum_by field_length (take l.field-index l.field-items)) (2 ^ 64 - 1)
