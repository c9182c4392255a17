use Rattle.rank_expr.proofs.ReaderSteps.{text_read}
use Rattle.rank_expr.proofs.reader.text.Goals as goal

pub returns : goal.returns
returns c = text_read c.args.input.now c.expr-part.result c.ended.result (record { is = c.expr-part.ensures }) c.ended.ensures
