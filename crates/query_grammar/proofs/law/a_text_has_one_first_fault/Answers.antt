use Rattle.query_grammar.proofs.OneAnswer.{one_refusal}
use Rattle.query_grammar.proofs.law.a_text_has_one_first_fault.Goals as goal

pub returns : goal.returns
returns c = one_refusal
