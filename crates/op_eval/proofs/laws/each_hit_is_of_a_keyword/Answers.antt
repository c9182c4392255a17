use Rattle.op_eval.proofs.KeywordHits.{hits_keyed}
use Rattle.op_eval.proofs.NumberedHits.{words_stand}
use Rattle.op_eval.proofs.laws.each_hit_is_of_a_keyword.Goals as goal

pub returns : goal.returns
returns c = record { keywords = hits_keyed; words = words_stand }
