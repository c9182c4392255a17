use Rattle.std.proofs.Common.{All, take}
use Rattle.doc_types.specs.Chunks.{AreWordsOf}
use Rattle.image_join.proofs.words.word_count.Given as goal

abbrev pub invariant-loop-part : goal.invariant-loop-part
invariant-loop-part g l = All (λ part. AreWordsOf part.rows part.words) (take l.part-index l.parts)
