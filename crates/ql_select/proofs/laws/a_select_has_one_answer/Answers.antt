use Rattle.ql_select.proofs.OneSelection.{not_refused_selection, one_selection, one_selection_fault}
use Rattle.ql_select.proofs.laws.a_select_has_one_answer.Goals as goal

pub returns-clause-selection : goal.returns-clause-selection
returns-clause-selection c = one_selection c.each_text_has_pieces.ensures c.a_text_is_one_query.ensures c.a_query_has_no_fault.ensures c.a_text_has_one_first_fault.ensures c.a_text_is_one_expression.ensures c.an_expression_has_no_fault.ensures c.a_text_has_one_first_fault-2.ensures

pub returns-clause-refusal : goal.returns-clause-refusal
returns-clause-refusal c = one_selection_fault c.each_text_has_pieces.ensures c.a_text_is_one_query.ensures c.a_query_has_no_fault.ensures c.a_text_has_one_first_fault.ensures c.a_text_is_one_expression.ensures c.an_expression_has_no_fault.ensures c.a_text_has_one_first_fault-2.ensures

pub returns-clause-apart : goal.returns-clause-apart
returns-clause-apart c = not_refused_selection c.each_text_has_pieces.ensures c.a_text_is_one_query.ensures c.a_query_has_no_fault.ensures c.a_text_has_one_first_fault.ensures c.a_text_is_one_expression.ensures c.an_expression_has_no_fault.ensures c.a_text_has_one_first_fault-2.ensures
