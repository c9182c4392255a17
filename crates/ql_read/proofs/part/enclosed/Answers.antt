use Rattle.token_grammar.proofs.Rows.{takes_seq, fails_first, fails_next, fails_with, plain_seq, plain_first, plain_next}
use Rattle.ql_read.proofs.part.enclosed.Goals as goal

pub returns-in_err-sign : goal.returns-in_err-sign
returns-in_err-sign g c = fails_with _ _ c.from_residual.result c.from_residual.ensures.1 (plain_first c.in_err-sign.ensures)

pub returns-in_err-list : goal.returns-in_err-list
returns-in_err-list g c = fails_with _ _ c.from_residual-in_err-list.result c.from_residual-in_err-list.ensures.1 (plain_next c.in_ok-sign.ensures (fails_first c.in_err-list.ensures c.requires.closes))

pub returns-in_err-sign-2 : goal.returns-in_err-sign-2
returns-in_err-sign-2 g c = fails_with _ _ c.from_residual-in_err-sign-2.result c.from_residual-in_err-sign-2.ensures.1 (plain_next c.in_ok-sign.ensures (fails_next c.in_ok-list.ensures c.requires.closes c.in_err-sign-2.ensures))

pub returns : goal.returns
returns g c = plain_seq c.in_ok-sign.ensures (takes_seq c.in_ok-list.ensures c.requires.closes c.in_ok-sign-2.ensures)
