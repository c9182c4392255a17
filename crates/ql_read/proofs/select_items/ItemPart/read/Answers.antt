use Rattle.std.proofs.Common.{refl}
use Rattle.token_grammar.proofs.Rows.{takes_seq, fails_first, fails_next, fails_with, from_there, fails_there, takes_wider, fails_wider}
use Rattle.token_grammar.proofs.Choices.{takes_if, takes_else, fails_else}
use Rattle.ql_read.proofs.select_items.ItemPart.read.Goals as goal

pub returns-then-takes_sign : goal.returns-then-takes_sign
returns-then-takes_sign c = takes_if c.if-takes_sign.ensures.1 refl (takes_wider refl c.if-takes_sign.ensures.0)

pub returns-in_err-expr : goal.returns-in_err-expr
returns-in_err-expr c = fails_with _ _ c.from_residual.result c.from_residual.ensures.1 (fails_else c.if-takes_sign.ensures.1 refl (fails_there c.if-takes_sign.ensures.0 (fails_first c.in_err-expr.ensures refl)))

pub returns-in_err-alias : goal.returns-in_err-alias
returns-in_err-alias c = fails_with _ _ c.from_residual-in_err-alias.result c.from_residual-in_err-alias.ensures.1 (fails_else c.if-takes_sign.ensures.1 refl (fails_there c.if-takes_sign.ensures.0 (fails_next c.in_ok-expr.ensures refl (fails_wider refl c.in_err-alias.ensures))))

pub returns : goal.returns
returns c = takes_else c.if-takes_sign.ensures.1 refl (from_there c.if-takes_sign.ensures.0 (takes_seq c.in_ok-expr.ensures refl (takes_wider refl c.in_ok-alias.ensures)))
