use Rattle.std.proofs.Common.{sym, subst}
use Rattle.ql_grammar.specs.Selects.{IsOptionValue}
use Rattle.ql_read.proofs.SelectValues.{named_is}
use Rattle.token_grammar.proofs.Rows.{fails_with, takes_as, plain_seq, plain_first, plain_next}
use Rattle.ql_read.proofs.select_parts.name_or_call.Goals as goal

pub returns-in_err-name : goal.returns-in_err-name
returns-in_err-name c = fails_with _ _ c.from_residual.result c.from_residual.ensures.1 (plain_first c.in_err-name.ensures)

pub returns-in_err-argument : goal.returns-in_err-argument
returns-in_err-argument c = fails_with _ _ c.from_residual-in_err-argument.result c.from_residual-in_err-argument.ensures.1 (plain_next c.in_ok-name.ensures c.in_err-argument.ensures)

pub returns : goal.returns
returns c = takes_as (λ u h. subst (λ v. IsOptionValue v u) (sym c.named_value.ensures) (named_is c.in_ok-name.name c.in_ok-argument.argument u h)) (plain_seq c.in_ok-name.ensures c.in_ok-argument.ensures)
