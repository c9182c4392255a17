use Rattle.std.proofs.Common.{rules}
use Rattle.token_grammar.proofs.Rows.{fails_with, plain_seq, plain_first, plain_next}
use Rattle.ql_read.proofs.Wholes.{whole_kept}
use mir.Syntax.{w128}
use mir.Val.{SFits}
use Rattle.ql_read.proofs.conditions.between.Goals as goal

pub returns-in_err-keyword : goal.returns-in_err-keyword
returns-in_err-keyword c = fails_with _ _ c.from_residual.result c.from_residual.ensures.1 (plain_first c.in_err-keyword.ensures)

pub returns-in_err-low : goal.returns-in_err-low
returns-in_err-low c = fails_with _ _ c.from_residual-in_err-low.result c.from_residual-in_err-low.ensures.1 (plain_next c.in_ok-keyword.ensures (plain_first c.in_err-low.ensures))

pub returns-in_err-keyword-2 : goal.returns-in_err-keyword-2
returns-in_err-keyword-2 c = fails_with _ _ c.from_residual-in_err-keyword-2.result c.from_residual-in_err-keyword-2.ensures.1 (plain_next c.in_ok-keyword.ensures (plain_next c.in_ok-low.ensures (plain_first c.in_err-keyword-2.ensures)))

pub returns-in_err-high : goal.returns-in_err-high
returns-in_err-high c = fails_with _ _ c.from_residual-in_err-high.result c.from_residual-in_err-high.ensures.1 (plain_next c.in_ok-keyword.ensures (plain_next c.in_ok-low.ensures (plain_next c.in_ok-keyword-2.ensures c.in_err-high.ensures)))

pub returns : goal.returns
returns c =
    let low : SFits w128 c.in_ok-low.low = search rules in
    let high : SFits w128 c.in_ok-high.high = search rules in
    plain_seq c.in_ok-keyword.ensures (plain_seq (whole_kept low c.in_ok-low.ensures) (plain_seq c.in_ok-keyword-2.ensures (whole_kept high c.in_ok-high.ensures)))
