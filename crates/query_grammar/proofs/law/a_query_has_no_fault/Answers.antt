use Rattle.query_grammar.proofs.OneAnswer.{value_no_fault}
use Rattle.query_grammar.proofs.law.a_query_has_no_fault.Goals as goal

pub returns : goal.returns
returns c = value_no_fault
