use Rattle.op_eval.proofs.QuotedVerdicts.{close_told, loose_told}
use Rattle.op_eval.proofs.verdict.of_quoted.Goals as goal

pub returns-in-Phrase : goal.returns-in-Phrase
returns-in-Phrase c = λ row number keys apart seen. close_told row number keys c.args.terms.now c.args.how c.args.spanned c.of_all.result c.in-Phrase.is apart seen c.of_all.ensures

pub returns-in-AtLeast : goal.returns-in-AtLeast
returns-in-AtLeast c = λ row number keys apart seen. loose_told row number keys c.args.how c.args.spanned c.of_quorum.result c.in-AtLeast.is (c.of_quorum.ensures row keys seen)
