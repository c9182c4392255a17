use Rattle.std.proofs.Common.{◌≡◌, ◌++◌, codes, subst, sym}
use Rattle.rank_expr.specs.declared.fault.ExprKind.{ExprKind}
use Rattle.ql_refusals.specs.Refusals.{expr_text, shown}
use Rattle.ql_refusals.proofs.ThreeParts.{three_parts}
use Rattle.ql_refusals.proofs.refusal.Refusal.then_expr.Goals as goal

pub returns-in-Factor-clause-value : goal.returns-in-Factor-clause-value
returns-in-Factor-clause-value c =
    subst (λ (kind : ExprKind). c.then-in-Factor-3.result ≡ record { code = c.args.self.code; text = c.args.self.text ++ expr_text kind (shown c.args.name.now) }) (sym c.in-Factor.is)
    (three_parts (codes "unknown factor '") (shown c.args.name.now) (codes "'") c.cut.result.now c.args.self c.then-in-Factor.result c.then-in-Factor-2.result c.then-in-Factor-3.result
    c.then-in-Factor.ensures c.then-in-Factor-2.ensures c.then-in-Factor-3.ensures c.cut.ensures.value)

pub returns-in-Scope-clause-value : goal.returns-in-Scope-clause-value
returns-in-Scope-clause-value c =
    subst (λ (kind : ExprKind). c.then-in-Scope-3.result ≡ record { code = c.args.self.code; text = c.args.self.text ++ expr_text kind (shown c.args.name.now) }) (sym c.in-Scope.is)
    (three_parts (codes "'") (shown c.args.name.now) (codes "' in the wrong scope") c.cut-in-Scope.result.now c.args.self c.then-in-Scope.result c.then-in-Scope-2.result c.then-in-Scope-3.result
    c.then-in-Scope.ensures c.then-in-Scope-2.ensures c.then-in-Scope-3.ensures c.cut-in-Scope.ensures.value)

pub returns-in-Nesting-clause-value : goal.returns-in-Nesting-clause-value
returns-in-Nesting-clause-value c =
    subst (λ (kind : ExprKind). c.then-in-Nesting.result ≡ record { code = c.args.self.code; text = c.args.self.text ++ expr_text kind (shown c.args.name.now) }) (sym c.in-Nesting.is)
    c.then-in-Nesting.ensures
