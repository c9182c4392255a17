use Rattle.std.proofs.Common.{◌≡◌, ◌+◌, length, take}
use Rattle.std.specs.List.{sum_by}
use Rattle.store_reads.proofs.pieces.with_words.Given as goal

abbrev pub invariant-loop-field : goal.invariant-loop-field
invariant-loop-field l = l.sum ≡ l.words + sum_by (λ tokens. length tokens.words) (take l.field-index l.field-items)
