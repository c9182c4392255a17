use Rattle.token_grammar.proofs.Rows.{fails_at}
use Rattle.ql_read.proofs.SelectSteps.{compared_none, takes_comparison}
use Rattle.ql_read.proofs.comparisons.comparison.Goals as goal

pub returns-in-Some : goal.returns-in-Some
returns-in-Some c = takes_comparison c.next_comparison.ensures c.in-Some.is c.skip.ensures.next

pub returns-in-None : goal.returns-in-None
returns-in-None c = fails_at (compared_none c.next_comparison.ensures c.in-None.is) c.place.ensures
