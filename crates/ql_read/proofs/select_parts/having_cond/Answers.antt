use Rattle.std.proofs.Common.{rules, refl}
use Rattle.token_grammar.proofs.Rows.{takes_seq, fails_first, fails_next, fails_with, plain_seq, plain_first, plain_next}
use Rattle.ql_read.proofs.Wholes.{whole_kept}
use mir.Syntax.{w128}
use mir.Val.{SFits}
use Rattle.ql_read.proofs.select_parts.having_cond.Goals as goal

pub returns-in_err-left : goal.returns-in_err-left
returns-in_err-left c = fails_with _ _ c.from_residual.result c.from_residual.ensures.1 (fails_first c.in_err-left.ensures refl)

pub returns-in_err-op : goal.returns-in_err-op
returns-in_err-op c = fails_with _ _ c.from_residual-in_err-op.result c.from_residual-in_err-op.ensures.1 (fails_next c.in_ok-left.ensures refl (plain_first c.in_err-op.ensures))

pub returns-in_err-value : goal.returns-in_err-value
returns-in_err-value c = fails_with _ _ c.from_residual-in_err-value.result c.from_residual-in_err-value.ensures.1 (fails_next c.in_ok-left.ensures refl (plain_next c.in_ok-op.ensures c.in_err-value.ensures))

pub returns : goal.returns
returns c =
    let value : SFits w128 c.in_ok-value.value = search rules in
    takes_seq c.in_ok-left.ensures refl (plain_seq c.in_ok-op.ensures (whole_kept value c.in_ok-value.ensures))
