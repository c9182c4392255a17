use Rattle.std.proofs.Common.{refl, []}
use Rattle.token_grammar.proofs.Choices.{takes_if, takes_else, optional_if}
use Rattle.token_grammar.proofs.Rows.{from_there}
use Rattle.ql_read.proofs.SelectSteps.{next_there, no_direction}
use Rattle.ql_read.proofs.sorting.direction.Goals as goal

pub returns-then-takes_keyword : goal.returns-then-takes_keyword
returns-then-takes_keyword c = optional_if {cs = []} c.if-takes_keyword.ensures.1 refl (takes_if c.if-takes_keyword.ensures.1 refl c.if-takes_keyword.ensures.0)

pub returns-then-takes_keyword-2 : goal.returns-then-takes_keyword-2
returns-then-takes_keyword-2 c = optional_if {cs = []} (next_there c.if-takes_keyword.ensures.0 c.if-takes_keyword-2.ensures.1) refl (takes_else c.if-takes_keyword.ensures.1 refl (from_there c.if-takes_keyword.ensures.0 c.if-takes_keyword-2.ensures.0))

pub returns : goal.returns
returns c = no_direction c.if-takes_keyword.ensures.1 c.if-takes_keyword.ensures.0 c.if-takes_keyword-2.ensures.1 c.if-takes_keyword-2.ensures.0 refl
