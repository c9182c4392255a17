use Rattle.std.proofs.Common.{sym, ◌∙◌}
use Rattle.op_eval.proofs.Standing.{seen_absent, seen_sure}
use Rattle.op_eval.proofs.verdict.of_term.Goals as goal

pub returns-then-is_sure : goal.returns-then-is_sure
returns-then-is_sure c = λ row key seen spans concerns. seen_sure row key c.args.term.now c.args.spanned spans seen (sym c.is_sure.ensures ∙ c.if-is_sure.true) concerns

pub returns-else-term : goal.returns-else-term
returns-else-term c = λ row key seen spans concerns. seen_absent row key c.args.term.now spans seen c.if-term.false
