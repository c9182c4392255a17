use Rattle.std.proofs.Common.{ℕ, sym, subst}
use Rattle.std.specs.Prelude.{Result, Ok, Err}
use Rattle.srch_base.specs.declared.faults.Or.{Or}
use Rattle.srch_base.specs.declared.faults.Or.TheVariants.{Fault}
use Rattle.rank_expr.specs.declared.class.Class.TheVariants as classes
use Rattle.rank_expr.specs.declared.expr.Expr.{Expr}
use Rattle.rank_expr.specs.declared.mark.Sign.TheVariants as signs
use Rattle.rank_expr.specs.steps.Joining.{IsFollowed}
use Rattle.rank_expr.proofs.ReaderSteps.{taken_sign, missed_sign}
use Rattle.rank_expr.proofs.joins.closed.Goals as goal

pub returns-then-takes : goal.returns-then-takes
returns-then-takes c =
    subst (λ (p : Result Expr (Or ℕ)). IsFollowed signs.Close p c.args.input.now (Ok c.in-Ok.part) c.takes.new.self) (sym c.in-Ok.is) (taken_sign signs.Close c.takes.new.self c.in-Ok.part (λ s e. e) c.if-takes.ensures).is

pub returns-else-takes : goal.returns-else-takes
returns-else-takes c =
    subst (λ (p : Result Expr (Or ℕ)). IsFollowed signs.Close p c.args.input.now (Err (Fault c.place.result)) c.takes.new.self) (sym c.in-Ok.is) (missed_sign classes.Close c.takes.new.self c.if-takes.ensures c.place.ensures)
