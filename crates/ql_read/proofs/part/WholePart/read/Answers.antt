use Rattle.std.proofs.Common.{refl, inl, inr}
use Rattle.std.proofs.Common.{arith}
use Rattle.std.proofs.lemmas.Int.{ints}
use Rattle.token_grammar.proofs.Rows.{plain_seq, plain_next, fails_with, from_there, fails_there, takes_as}
use Rattle.token_grammar.proofs.Choices.{takes_if, fails_if, takes_else, fails_else}
use Rattle.ql_read.proofs.part.WholePart.read.Goals as goal

pub returns-in_err-number : goal.returns-in_err-number
returns-in_err-number c = fails_with _ _ c.from_residual.result c.from_residual.ensures.1 (fails_if c.if-takes_sign.ensures.1 refl (plain_next c.if-takes_sign.ensures.0 c.in_err-number.ensures))

pub returns-then-takes_sign : goal.returns-then-takes_sign
returns-then-takes_sign c = takes_if c.if-takes_sign.ensures.1 refl (takes_as (λ u h. inr (c.in_ok-number.field-0, omega (arith, ints), h)) (plain_seq c.if-takes_sign.ensures.0 c.in_ok-number.ensures))

pub returns-in_err-number-2 : goal.returns-in_err-number-2
returns-in_err-number-2 c = fails_with _ _ c.from_residual-in_err-number-2.result c.from_residual-in_err-number-2.ensures.1 (fails_else c.if-takes_sign.ensures.1 refl (fails_there c.if-takes_sign.ensures.0 c.in_err-number-2.ensures))

pub returns : goal.returns
returns c = takes_else c.if-takes_sign.ensures.1 refl (from_there c.if-takes_sign.ensures.0 (takes_as (λ u h. inl (c.in_ok-number-2.field-0, omega (arith, ints), h)) c.in_ok-number-2.ensures))
