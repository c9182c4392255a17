use Rattle.ql_insert.proofs.OneInsertion.{not_refused_values, one_txn, one_values_fault}
use Rattle.ql_insert.proofs.laws.an_insert_has_one_answer.Goals as goal

pub returns-clause-txn : goal.returns-clause-txn
returns-clause-txn c = one_txn c.a_text_has_one_answer.ensures.same c.a_text_has_one_answer.ensures.apart

pub returns-clause-refusal : goal.returns-clause-refusal
returns-clause-refusal c = one_values_fault c.a_text_has_one_answer.ensures.same c.a_text_has_one_answer.ensures.apart

pub returns-clause-apart : goal.returns-clause-apart
returns-clause-apart c = not_refused_values c.a_text_has_one_answer.ensures.same c.a_text_has_one_answer.ensures.apart
