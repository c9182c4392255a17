use Rattle.std.proofs.Common.{refl}
use Rattle.token_grammar.proofs.Rows.{plain_seq, plain_first, plain_next, takes_seq, fails_first, fails_next, fails_with}
use Rattle.ql_read.proofs.insert.insert.Goals as goal

pub returns-in_err-replace : goal.returns-in_err-replace
returns-in_err-replace c = fails_with _ _ c.from_residual.result c.from_residual.ensures.1 (plain_first c.in_err-replace.ensures)

pub returns-in_err-keyword : goal.returns-in_err-keyword
returns-in_err-keyword c = fails_with _ _ c.from_residual-in_err-keyword.result c.from_residual-in_err-keyword.ensures.1 (plain_next c.in_ok-replace.ensures (plain_first c.in_err-keyword.ensures))

pub returns-in_err-index : goal.returns-in_err-index
returns-in_err-index c = fails_with _ _ c.from_residual-in_err-index.result c.from_residual-in_err-index.ensures.1 (plain_next c.in_ok-replace.ensures (plain_next c.in_ok-keyword.ensures (plain_first c.in_err-index.ensures)))

pub returns-in_err-columns : goal.returns-in_err-columns
returns-in_err-columns c = fails_with _ _ c.from_residual-in_err-columns.result c.from_residual-in_err-columns.ensures.1 (plain_next c.in_ok-replace.ensures (plain_next c.in_ok-keyword.ensures (plain_next c.in_ok-index.ensures (fails_first c.in_err-columns.ensures refl))))

pub returns-in_err-keyword-2 : goal.returns-in_err-keyword-2
returns-in_err-keyword-2 c = fails_with _ _ c.from_residual-in_err-keyword-2.result c.from_residual-in_err-keyword-2.ensures.1 (plain_next c.in_ok-replace.ensures (plain_next c.in_ok-keyword.ensures (plain_next c.in_ok-index.ensures (fails_next c.in_ok-columns.ensures refl (plain_first c.in_err-keyword-2.ensures)))))

pub returns-in_err-rows : goal.returns-in_err-rows
returns-in_err-rows c = fails_with _ _ c.from_residual-in_err-rows.result c.from_residual-in_err-rows.ensures.1 (plain_next c.in_ok-replace.ensures (plain_next c.in_ok-keyword.ensures (plain_next c.in_ok-index.ensures (fails_next c.in_ok-columns.ensures refl (plain_next c.in_ok-keyword-2.ensures c.in_err-rows.ensures)))))

pub returns : goal.returns
returns c = plain_seq c.in_ok-replace.ensures (plain_seq c.in_ok-keyword.ensures (plain_seq c.in_ok-index.ensures (takes_seq c.in_ok-columns.ensures refl (plain_seq c.in_ok-keyword-2.ensures c.in_ok-rows.ensures))))
