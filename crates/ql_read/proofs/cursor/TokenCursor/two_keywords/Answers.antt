use Rattle.std.proofs.Common.{refl}
use Rattle.token_grammar.proofs.Rows.{takes_seq, fails_first, fails_next, fails_with}
use Rattle.ql_read.proofs.cursor.TokenCursor.two_keywords.Goals as goal

pub returns-in_err-keyword : goal.returns-in_err-keyword
returns-in_err-keyword c = fails_with _ _ c.from_residual.result c.from_residual.ensures.1 (fails_first c.in_err-keyword.ensures refl)

pub returns-in_err-keyword-2 : goal.returns-in_err-keyword-2
returns-in_err-keyword-2 c = fails_with _ _ c.from_residual-in_err-keyword-2.result c.from_residual-in_err-keyword-2.ensures.1 (fails_next c.in_ok-keyword.ensures refl c.in_err-keyword-2.ensures)

pub returns : goal.returns
returns c = takes_seq c.in_ok-keyword.ensures refl c.in_ok-keyword-2.ensures
