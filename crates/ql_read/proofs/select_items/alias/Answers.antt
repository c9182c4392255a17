use Rattle.std.proofs.Common.{refl, []}
use Rattle.token_grammar.proofs.Rows.{takes_seq, fails_next, fails_with, plain_seq, plain_next}
use Rattle.token_grammar.proofs.Choices.{optional_if, optional_fails}
use Rattle.ql_read.proofs.SelectSteps.{next_there, as_taken, no_as, no_alias}
use Rattle.ql_read.proofs.select_items.alias.Goals as goal

pub returns-in_err-name : goal.returns-in_err-name
returns-in_err-name c = fails_with _ _ c.from_residual.result c.from_residual.ensures.1 (optional_fails {cs = []} c.if-takes_keyword.ensures.1 refl (fails_next (as_taken c.if-takes_keyword.ensures.1 c.if-takes_keyword.ensures.0) refl c.in_err-name.ensures))

pub returns-then-takes_keyword : goal.returns-then-takes_keyword
returns-then-takes_keyword c = optional_if {cs = []} c.if-takes_keyword.ensures.1 refl (takes_seq (as_taken c.if-takes_keyword.ensures.1 c.if-takes_keyword.ensures.0) refl c.in_ok-name.ensures)

pub returns-in_err-name-2 : goal.returns-in_err-name-2
returns-in_err-name-2 c = fails_with _ _ c.from_residual-in_err-name-2.result c.from_residual-in_err-name-2.ensures.1 (optional_fails {cs = []} (next_there c.if-takes_keyword.ensures.0 c.if-is_name.ensures) refl (plain_next (no_as c.if-takes_keyword.ensures.1 c.if-takes_keyword.ensures.0) c.in_err-name-2.ensures))

pub returns-then-is_name : goal.returns-then-is_name
returns-then-is_name c = optional_if {cs = []} (next_there c.if-takes_keyword.ensures.0 c.if-is_name.ensures) refl (plain_seq (no_as c.if-takes_keyword.ensures.1 c.if-takes_keyword.ensures.0) c.in_ok-name-2.ensures)

pub returns : goal.returns
returns c = no_alias c.if-takes_keyword.ensures.1 c.if-takes_keyword.ensures.0 c.if-is_name.ensures refl
