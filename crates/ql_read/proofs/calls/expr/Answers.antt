use Rattle.std.proofs.Common.{sym, subst, refl}
use Rattle.ql_grammar.specs.Selects.{IsExpr}
use Rattle.ql_read.proofs.SelectValues.{counting_is}
use Rattle.token_grammar.proofs.Lookahead.{takes_followed, fails_followed}
use Rattle.token_grammar.proofs.Rows.{fails_with, takes_as, takes_wider, fails_wider}
use Rattle.ql_read.proofs.ExprChoices.{fails_past_count, fails_past_group_by, fails_past_max, fails_past_min, fails_past_sum, fails_past_weight, takes_past_count, takes_past_group_by, takes_past_max, takes_past_min, takes_past_sum, takes_past_weight}
use Rattle.ql_read.proofs.calls.expr.Goals as goal

pub returns-in_err-name : goal.returns-in_err-name
returns-in_err-name c = fails_with _ _ c.from_residual.result c.from_residual.ensures.1 (fails_followed c.if-is_followed.ensures refl (fails_wider refl c.in_err-name.ensures))

pub returns-then-is_followed : goal.returns-then-is_followed
returns-then-is_followed c = takes_followed c.if-is_followed.ensures refl (takes_as (λ u h. subst (λ e. IsExpr e u) (sym c.count_expr.ensures) (counting_is c.in_ok-name.name u h)) (takes_wider refl c.in_ok-name.ensures))

pub returns-in_err-argument : goal.returns-in_err-argument
returns-in_err-argument c = fails_with _ _ c.from_residual-in_err-argument.result c.from_residual-in_err-argument.ensures.1 (fails_past_count c.if-is_followed.ensures (fails_followed c.if-is_followed-2.ensures refl (fails_wider refl c.in_err-argument.ensures)))

pub returns-then-is_followed-2 : goal.returns-then-is_followed-2
returns-then-is_followed-2 c = takes_past_count c.if-is_followed.ensures (takes_followed c.if-is_followed-2.ensures refl (takes_wider refl c.in_ok-argument.ensures))

pub returns-in_err-argument-2 : goal.returns-in_err-argument-2
returns-in_err-argument-2 c = fails_with _ _ c.from_residual-in_err-argument-2.result c.from_residual-in_err-argument-2.ensures.1 (fails_past_min c.if-is_followed.ensures c.if-is_followed-2.ensures (fails_followed c.if-is_followed-3.ensures refl (fails_wider refl c.in_err-argument-2.ensures)))

pub returns-then-is_followed-3 : goal.returns-then-is_followed-3
returns-then-is_followed-3 c = takes_past_min c.if-is_followed.ensures c.if-is_followed-2.ensures (takes_followed c.if-is_followed-3.ensures refl (takes_wider refl c.in_ok-argument-2.ensures))

pub returns-in_err-argument-3 : goal.returns-in_err-argument-3
returns-in_err-argument-3 c = fails_with _ _ c.from_residual-in_err-argument-3.result c.from_residual-in_err-argument-3.ensures.1 (fails_past_max c.if-is_followed.ensures c.if-is_followed-2.ensures c.if-is_followed-3.ensures (fails_followed c.if-is_followed-4.ensures refl (fails_wider refl c.in_err-argument-3.ensures)))

pub returns-then-is_followed-4 : goal.returns-then-is_followed-4
returns-then-is_followed-4 c = takes_past_max c.if-is_followed.ensures c.if-is_followed-2.ensures c.if-is_followed-3.ensures (takes_followed c.if-is_followed-4.ensures refl (takes_wider refl c.in_ok-argument-3.ensures))

pub returns-in_err-no_argument : goal.returns-in_err-no_argument
returns-in_err-no_argument c = fails_with _ _ c.from_residual-in_err-no_argument.result c.from_residual-in_err-no_argument.ensures.1 (fails_past_sum c.if-is_followed.ensures c.if-is_followed-2.ensures c.if-is_followed-3.ensures c.if-is_followed-4.ensures (fails_followed c.if-is_followed-5.ensures refl (fails_wider refl c.in_err-no_argument.ensures)))

pub returns-then-is_followed-5 : goal.returns-then-is_followed-5
returns-then-is_followed-5 c = takes_past_sum c.if-is_followed.ensures c.if-is_followed-2.ensures c.if-is_followed-3.ensures c.if-is_followed-4.ensures (takes_followed c.if-is_followed-5.ensures refl (takes_wider refl c.in_ok-no_argument.ensures))

pub returns-in_err-no_argument-2 : goal.returns-in_err-no_argument-2
returns-in_err-no_argument-2 c = fails_with _ _ c.from_residual-in_err-no_argument-2.result c.from_residual-in_err-no_argument-2.ensures.1 (fails_past_weight c.if-is_followed.ensures c.if-is_followed-2.ensures c.if-is_followed-3.ensures c.if-is_followed-4.ensures c.if-is_followed-5.ensures (fails_followed c.if-is_followed-6.ensures refl (fails_wider refl c.in_err-no_argument-2.ensures)))

pub returns-then-is_followed-6 : goal.returns-then-is_followed-6
returns-then-is_followed-6 c = takes_past_weight c.if-is_followed.ensures c.if-is_followed-2.ensures c.if-is_followed-3.ensures c.if-is_followed-4.ensures c.if-is_followed-5.ensures (takes_followed c.if-is_followed-6.ensures refl (takes_wider refl c.in_ok-no_argument-2.ensures))

pub returns-in_err-name-2 : goal.returns-in_err-name-2
returns-in_err-name-2 c = fails_with _ _ c.from_residual-in_err-name-2.result c.from_residual-in_err-name-2.ensures.1 (fails_past_group_by c.if-is_followed.ensures c.if-is_followed-2.ensures c.if-is_followed-3.ensures c.if-is_followed-4.ensures c.if-is_followed-5.ensures c.if-is_followed-6.ensures (fails_wider refl c.in_err-name-2.ensures))

pub returns : goal.returns
returns c = takes_past_group_by c.if-is_followed.ensures c.if-is_followed-2.ensures c.if-is_followed-3.ensures c.if-is_followed-4.ensures c.if-is_followed-5.ensures c.if-is_followed-6.ensures (takes_wider refl c.in_ok-name-2.ensures)
