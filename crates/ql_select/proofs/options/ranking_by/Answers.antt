use Rattle.std.proofs.Common.{Err, refl, subst}
use Rattle.srch_base.specs.declared.faults.Or.{Or}
use Rattle.rank_expr.specs.ExprFaults.{ReadsExpr}
use Rattle.rank_expr.specs.declared.fault.ExprFault.{ExprFault}
use Rattle.ql_select.proofs.options.ranking_by.Goals as goal

pub returns-in-Ok : goal.returns-in-Ok
returns-in-Ok c = λ name. (c.in-Ok.expr, c.in-Ok.ensures, refl)

pub returns-in-Err-Fault : goal.returns-in-Err-Fault
returns-in-Err-Fault c = λ name.
    let at = c.in-Err-Fault in
    (at.fault, subst (λ (end : Or ExprFault). ReadsExpr c.args.schema.now c.args.text.now (Err end)) at.field-0-is at.ensures, c.bad_expr.ensures)
