use Rattle.ql_answers.proofs.OnePlan.{never_both, one_plan, one_refusal}
use Rattle.ql_answers.proofs.laws.a_statement_has_one_plan.Goals as goal

pub returns-clause-plan : goal.returns-clause-plan
returns-clause-plan c =
    one_plan c.a_select_has_one_answer.ensures.selection c.a_select_has_one_answer.ensures.refusal c.a_select_has_one_answer.ensures.apart c.an_insert_has_one_answer.ensures.txn c.an_insert_has_one_answer.ensures.refusal c.an_insert_has_one_answer.ensures.apart

pub returns-clause-refusal : goal.returns-clause-refusal
returns-clause-refusal c =
    one_refusal c.a_select_has_one_answer.ensures.selection c.a_select_has_one_answer.ensures.refusal c.a_select_has_one_answer.ensures.apart c.an_insert_has_one_answer.ensures.txn c.an_insert_has_one_answer.ensures.refusal c.an_insert_has_one_answer.ensures.apart

pub returns-clause-not_both : goal.returns-clause-not_both
returns-clause-not_both c =
    never_both c.a_select_has_one_answer.ensures.selection c.a_select_has_one_answer.ensures.refusal c.a_select_has_one_answer.ensures.apart c.an_insert_has_one_answer.ensures.txn c.an_insert_has_one_answer.ensures.refusal c.an_insert_has_one_answer.ensures.apart
