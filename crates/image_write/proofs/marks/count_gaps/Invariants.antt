use Rattle.std.proofs.Common.{◌≡◌, ◌≤◌, length, take}
use Rattle.std.specs.List.{filter}
use Rattle.doc_types.specs.Chunks.{is_boundary}
use Rattle.image_write.proofs.marks.count_gaps.Given as goal

abbrev pub invariant-loop-token : goal.invariant-loop-token
invariant-loop-token l = record { is : l.count ≡ length (filter (λ token. is_boundary token.gap) (take l.token-index l.words)); few : l.count ≤ l.token-index }
