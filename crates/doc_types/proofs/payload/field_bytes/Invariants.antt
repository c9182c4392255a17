use Rattle.std.proofs.Common.{◌≡◌, ◌+◌, ◌*◌, ◌-◌, ◌^◌, min, take, length}
use Rattle.std.specs.List.{sum_by}
use Rattle.doc_types.specs.Payloads.{word_length}
use Rattle.doc_types.proofs.payload.field_bytes.Given as goal

abbrev pub invariant-loop-token : goal.invariant-loop-token
invariant-loop-token l = l.bytes ≡ min (4 + 12 * length l.field.spans + sum_by word_length (take l.token-index l.token-items)) (2 ^ 64 - 1)
