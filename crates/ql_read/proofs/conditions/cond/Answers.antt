use Rattle.std.proofs.Common.{rules, refl, []}
use Rattle.token_grammar.proofs.Rows.{fails_with, plain_seq, plain_first, plain_next, from_there, fails_there, takes_as}
use Rattle.token_grammar.proofs.Choices.{takes_if, fails_if, takes_else, fails_else}
use Rattle.ql_read.proofs.Wholes.{whole_kept, between_kept}
use mir.Syntax.{w128}
use mir.Val.{SFits}
use Rattle.ql_read.proofs.conditions.cond.Goals as goal

pub returns-in_err-matched : goal.returns-in_err-matched
returns-in_err-matched c = fails_with _ _ c.from_residual.result c.from_residual.ensures.1 (fails_if c.if-is_keyword.ensures refl c.in_err-matched.ensures)

pub returns-then-is_keyword : goal.returns-then-is_keyword
returns-then-is_keyword c = takes_if c.if-is_keyword.ensures refl c.in_ok-matched.ensures

pub returns-in_err-name : goal.returns-in_err-name
returns-in_err-name c = fails_with _ _ c.from_residual-in_err-name.result c.from_residual-in_err-name.ensures.1 (fails_else c.if-is_keyword.ensures refl (plain_first c.in_err-name.ensures))

pub returns-in_err-low : goal.returns-in_err-low
returns-in_err-low c = fails_with _ _ c.from_residual-in_err-low.result c.from_residual-in_err-low.ensures.1 (fails_else c.if-is_keyword.ensures refl (plain_next c.in_ok-name.ensures (fails_if c.if-is_keyword-2.ensures refl c.in_err-low.ensures)))

pub returns-then-is_keyword-2 : goal.returns-then-is_keyword-2
returns-then-is_keyword-2 c =
    let low : SFits w128 c.in_ok-low.low = search rules in
    let high : SFits w128 c.in_ok-low.high = search rules in
    takes_else c.if-is_keyword.ensures refl (plain_seq c.in_ok-name.ensures (takes_if c.if-is_keyword-2.ensures refl (between_kept low high c.in_ok-low.ensures)))

pub returns-in_err-values : goal.returns-in_err-values
returns-in_err-values c = fails_with _ _ c.from_residual-in_err-values.result c.from_residual-in_err-values.ensures.1 (fails_else c.if-is_keyword.ensures refl (plain_next c.in_ok-name.ensures (fails_else c.if-is_keyword-2.ensures refl (fails_if c.if-takes_keyword.ensures.1 refl (plain_next c.if-takes_keyword.ensures.0 c.in_err-values.ensures)))))

pub returns-then-takes_keyword : goal.returns-then-takes_keyword
returns-then-takes_keyword c = takes_else c.if-is_keyword.ensures refl (plain_seq c.in_ok-name.ensures (takes_else c.if-is_keyword-2.ensures refl (takes_if c.if-takes_keyword.ensures.1 refl (plain_seq c.if-takes_keyword.ensures.0 c.in_ok-values.ensures))))

pub returns-in_err-values-2 : goal.returns-in_err-values-2
returns-in_err-values-2 c = fails_with _ _ c.from_residual-in_err-values-2.result c.from_residual-in_err-values-2.ensures.1 (fails_else c.if-is_keyword.ensures refl (plain_next c.in_ok-name.ensures (fails_else c.if-is_keyword-2.ensures refl (fails_else c.if-takes_keyword.ensures.1 refl (fails_there c.if-takes_keyword.ensures.0 (fails_if c.if-is_keyword-3.ensures refl c.in_err-values-2.ensures))))))

pub returns-then-is_keyword-3 : goal.returns-then-is_keyword-3
returns-then-is_keyword-3 c = takes_else c.if-is_keyword.ensures refl (plain_seq c.in_ok-name.ensures (takes_else c.if-is_keyword-2.ensures refl (takes_else c.if-takes_keyword.ensures.1 refl (from_there c.if-takes_keyword.ensures.0 (takes_if c.if-is_keyword-3.ensures refl (takes_as (λ u h. ([], u, refl, refl, h)) c.in_ok-values-2.ensures))))))

pub returns-in_err-op : goal.returns-in_err-op
returns-in_err-op c = fails_with _ _ c.from_residual-in_err-op.result c.from_residual-in_err-op.ensures.1 (fails_else c.if-is_keyword.ensures refl (plain_next c.in_ok-name.ensures (fails_else c.if-is_keyword-2.ensures refl (fails_else c.if-takes_keyword.ensures.1 refl (fails_there c.if-takes_keyword.ensures.0 (fails_else c.if-is_keyword-3.ensures refl (plain_first c.in_err-op.ensures)))))))

pub returns-in_err-value : goal.returns-in_err-value
returns-in_err-value c = fails_with _ _ c.from_residual-in_err-value.result c.from_residual-in_err-value.ensures.1 (fails_else c.if-is_keyword.ensures refl (plain_next c.in_ok-name.ensures (fails_else c.if-is_keyword-2.ensures refl (fails_else c.if-takes_keyword.ensures.1 refl (fails_there c.if-takes_keyword.ensures.0 (fails_else c.if-is_keyword-3.ensures refl (plain_next c.in_ok-op.ensures c.in_err-value.ensures)))))))

pub returns : goal.returns
returns c =
    let value : SFits w128 c.in_ok-value.value = search rules in
    takes_else c.if-is_keyword.ensures refl (plain_seq c.in_ok-name.ensures (takes_else c.if-is_keyword-2.ensures refl (takes_else c.if-takes_keyword.ensures.1 refl (from_there c.if-takes_keyword.ensures.0 (takes_else c.if-is_keyword-3.ensures refl (plain_seq c.in_ok-op.ensures (whole_kept value c.in_ok-value.ensures)))))))
