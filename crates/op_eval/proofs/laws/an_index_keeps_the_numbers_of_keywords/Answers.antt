use Rattle.op_eval.proofs.NumberedHits.{numbers_kept}
use Rattle.op_eval.proofs.laws.an_index_keeps_the_numbers_of_keywords.Goals as goal

pub returns : goal.returns
returns c = numbers_kept
