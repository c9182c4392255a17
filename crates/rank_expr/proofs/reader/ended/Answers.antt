use Rattle.std.proofs.Common.{ℕ, [], sym, subst}
use Rattle.std.specs.Prelude.{Result, Ok, Err}
use Rattle.srch_base.specs.declared.faults.Or.{Or}
use Rattle.srch_base.specs.declared.faults.Or.TheVariants.{Fault}
use Rattle.rank_expr.specs.declared.expr.Expr.{Expr}
use Rattle.rank_expr.specs.declared.mark.Sign.TheVariants as signs
use Rattle.rank_expr.specs.steps.Joining.{IsFollowed}
use Rattle.rank_expr.proofs.ReaderSteps.{end_taken, end_missed}
use Rattle.rank_expr.proofs.reader.ended.Goals as goal

pub returns-then-is_at_end : goal.returns-then-is_at_end
returns-then-is_at_end c =
    subst (λ (p : Result Expr (Or ℕ)). IsFollowed signs.End p c.args.input.now (Ok c.in-Ok.part) []) (sym c.in-Ok.is) (end_taken c.in-Ok.part c.if-is_at_end.ensures).is

pub returns-else-is_at_end : goal.returns-else-is_at_end
returns-else-is_at_end c =
    subst (λ (p : Result Expr (Or ℕ)). IsFollowed signs.End p c.args.input.now (Err (Fault c.place.result)) []) (sym c.in-Ok.is) (end_missed c.if-is_at_end.ensures c.place.ensures)
