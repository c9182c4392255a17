use Rattle.std.proofs.Common.{refl}
use Rattle.token_grammar.proofs.Rows.{plain_seq, plain_first, plain_next, fails_with, from_there, fails_there}
use Rattle.token_grammar.proofs.Choices.{takes_if, fails_if, takes_else, fails_else}
use Rattle.ql_read.proofs.commands.shown.Goals as goal

pub returns-in_err-index : goal.returns-in_err-index
returns-in_err-index c = fails_with _ _ c.from_residual.result c.from_residual.ensures.1 (fails_if c.if-takes_keyword.ensures.1 refl (plain_next c.if-takes_keyword.ensures.0 (plain_first c.in_err-index.ensures)))

pub returns-in_err-keyword : goal.returns-in_err-keyword
returns-in_err-keyword c = fails_with _ _ c.from_residual-in_err-keyword.result c.from_residual-in_err-keyword.ensures.1 (fails_if c.if-takes_keyword.ensures.1 refl (plain_next c.if-takes_keyword.ensures.0 (plain_next c.in_ok-index.ensures c.in_err-keyword.ensures)))

pub returns-then-takes_keyword : goal.returns-then-takes_keyword
returns-then-takes_keyword c = takes_if c.if-takes_keyword.ensures.1 refl (plain_seq c.if-takes_keyword.ensures.0 (plain_seq c.in_ok-index.ensures c.in_ok-keyword.ensures))

pub returns-then-takes_keyword-2 : goal.returns-then-takes_keyword-2
returns-then-takes_keyword-2 c = takes_else c.if-takes_keyword.ensures.1 refl (from_there c.if-takes_keyword.ensures.0 (takes_if c.if-takes_keyword-2.ensures.1 refl c.if-takes_keyword-2.ensures.0))

pub returns-then-takes_keyword-3 : goal.returns-then-takes_keyword-3
returns-then-takes_keyword-3 c = takes_else c.if-takes_keyword.ensures.1 refl (from_there c.if-takes_keyword.ensures.0 (takes_else c.if-takes_keyword-2.ensures.1 refl (from_there c.if-takes_keyword-2.ensures.0 (takes_if c.if-takes_keyword-3.ensures.1 refl c.if-takes_keyword-3.ensures.0))))

pub returns-then-takes_keyword-4 : goal.returns-then-takes_keyword-4
returns-then-takes_keyword-4 c = takes_else c.if-takes_keyword.ensures.1 refl (from_there c.if-takes_keyword.ensures.0 (takes_else c.if-takes_keyword-2.ensures.1 refl (from_there c.if-takes_keyword-2.ensures.0 (takes_else c.if-takes_keyword-3.ensures.1 refl (from_there c.if-takes_keyword-3.ensures.0 (takes_if c.if-takes_keyword-4.ensures.1 refl c.if-takes_keyword-4.ensures.0))))))

pub returns-then-takes_keyword-5 : goal.returns-then-takes_keyword-5
returns-then-takes_keyword-5 c = takes_else c.if-takes_keyword.ensures.1 refl (from_there c.if-takes_keyword.ensures.0 (takes_else c.if-takes_keyword-2.ensures.1 refl (from_there c.if-takes_keyword-2.ensures.0 (takes_else c.if-takes_keyword-3.ensures.1 refl (from_there c.if-takes_keyword-3.ensures.0 (takes_else c.if-takes_keyword-4.ensures.1 refl (from_there c.if-takes_keyword-4.ensures.0 (takes_if c.if-takes_keyword-5.ensures.1 refl c.if-takes_keyword-5.ensures.0))))))))

pub returns-in_err-keyword-2 : goal.returns-in_err-keyword-2
returns-in_err-keyword-2 c = fails_with _ _ c.from_residual-in_err-keyword-2.result c.from_residual-in_err-keyword-2.ensures.1 (fails_else c.if-takes_keyword.ensures.1 refl (fails_there c.if-takes_keyword.ensures.0 (fails_else c.if-takes_keyword-2.ensures.1 refl (fails_there c.if-takes_keyword-2.ensures.0 (fails_else c.if-takes_keyword-3.ensures.1 refl (fails_there c.if-takes_keyword-3.ensures.0 (fails_else c.if-takes_keyword-4.ensures.1 refl (fails_there c.if-takes_keyword-4.ensures.0 (fails_else c.if-takes_keyword-5.ensures.1 refl (fails_there c.if-takes_keyword-5.ensures.0 c.in_err-keyword-2.ensures))))))))))

pub returns : goal.returns
returns c = takes_else c.if-takes_keyword.ensures.1 refl (from_there c.if-takes_keyword.ensures.0 (takes_else c.if-takes_keyword-2.ensures.1 refl (from_there c.if-takes_keyword-2.ensures.0 (takes_else c.if-takes_keyword-3.ensures.1 refl (from_there c.if-takes_keyword-3.ensures.0 (takes_else c.if-takes_keyword-4.ensures.1 refl (from_there c.if-takes_keyword-4.ensures.0 (takes_else c.if-takes_keyword-5.ensures.1 refl (from_there c.if-takes_keyword-5.ensures.0 c.in_ok-keyword-2.ensures)))))))))
