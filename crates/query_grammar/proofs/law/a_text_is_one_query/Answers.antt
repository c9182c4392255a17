use Rattle.query_grammar.proofs.OneAnswer.{one_value}
use Rattle.query_grammar.proofs.law.a_text_is_one_query.Goals as goal

pub returns : goal.returns
returns c = one_value
