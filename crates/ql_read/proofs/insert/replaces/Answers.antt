use Rattle.std.proofs.Common.{refl}
use Rattle.token_grammar.proofs.Rows.{fails_with, from_there, fails_there}
use Rattle.token_grammar.proofs.Choices.{takes_if, takes_else, fails_else}
use Rattle.ql_read.proofs.insert.replaces.Goals as goal

pub returns-then-takes_keyword : goal.returns-then-takes_keyword
returns-then-takes_keyword c = takes_if c.if-takes_keyword.ensures.1 refl c.if-takes_keyword.ensures.0

pub returns-in_err-keyword : goal.returns-in_err-keyword
returns-in_err-keyword c = fails_with _ _ c.from_residual.result c.from_residual.ensures.1 (fails_else c.if-takes_keyword.ensures.1 refl (fails_there c.if-takes_keyword.ensures.0 c.in_err-keyword.ensures))

pub returns : goal.returns
returns c = takes_else c.if-takes_keyword.ensures.1 refl (from_there c.if-takes_keyword.ensures.0 c.in_ok-keyword.ensures)
