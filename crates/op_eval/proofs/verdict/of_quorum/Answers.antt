use Rattle.std.proofs.Common.{sym, ◌∙◌}
use Rattle.op_eval.proofs.Quorums.{sure_enough, too_few}
use Rattle.op_eval.proofs.verdict.of_quorum.Goals as goal

pub returns-then-is_enough : goal.returns-then-is_enough
returns-then-is_enough c = λ row keys seen spans concerns.
    sure_enough row keys c.args.terms.now c.args.how spans c.args.spanned c.sure_count.result seen concerns c.sure_count.ensures (sym c.is_enough.ensures ∙ c.if-is_enough.true)

pub returns-else-is_enough-2 : goal.returns-else-is_enough-2
returns-else-is_enough-2 c = λ row keys seen spans concerns.
    too_few row keys c.args.terms.now c.args.how spans c.present_count.result seen c.present_count.ensures (sym c.is_enough-else-is_enough.ensures ∙ c.if-is_enough-2.false)
