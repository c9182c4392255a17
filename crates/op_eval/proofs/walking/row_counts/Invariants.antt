use Rattle.std.proofs.Common.{◌≡◌, length, map, take}
use Rattle.doc_types.specs.Chunks.{rows_with}
use Rattle.op_eval.proofs.walking.row_counts.Given as goal

abbrev pub invariant-loop-key : goal.invariant-loop-key
invariant-loop-key g l = l.counts.items ≡ map (λ key. length (rows_with key.now.word (g.C.Chunk.content l.chunk))) (take l.key-index l.keys)
