use Rattle.std.proofs.Common.{All, subst}
use Rattle.std.proofs.lemmas.List.{take_all}
use Rattle.doc_types.specs.Chunks.{AreWordsOf}
use Rattle.image_write.proofs.Columned.{all_more}
use Rattle.image_join.specs.steps.Parts.{PartValue}
use Rattle.image_join.proofs.words.word_count.Goals as goal

pub loop-part-preserved : goal.loop-part-preserved
loop-part-preserved g c = all_more (λ (part : PartValue). AreWordsOf part.rows part.words) c.args.parts.now c.loop-part.part-index c.part-item.result c.loop-part-test.true c.part-item.is c.loop-part.invariant c.words.ensures.are

pub returns : goal.returns
returns g c = subst (All (λ (part : PartValue). AreWordsOf part.rows part.words)) (take_all c.loop-part.part-index c.args.parts.now c.loop-part-test.false) c.loop-part.invariant
