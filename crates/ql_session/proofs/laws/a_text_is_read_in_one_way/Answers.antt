use Rattle.ql_session.proofs.OneReading.{one_list, one_refusal, not_both}
use Rattle.ql_session.proofs.laws.a_text_is_read_in_one_way.Goals as goal

pub returns-clause-statements : goal.returns-clause-statements
returns-clause-statements c =
    one_list c.one_reading.ensures.tokens c.one_reading.ensures.not_both c.one_reading.ensures.fault c.tokens_have_one_value.ensures c.packets_have_no_fault.ensures c.tokens_have_one_fault.ensures

pub returns-clause-refusal : goal.returns-clause-refusal
returns-clause-refusal c =
    one_refusal c.one_reading.ensures.tokens c.one_reading.ensures.not_both c.one_reading.ensures.fault c.tokens_have_one_value.ensures c.packets_have_no_fault.ensures c.tokens_have_one_fault.ensures

pub returns-clause-not_both : goal.returns-clause-not_both
returns-clause-not_both c =
    not_both c.one_reading.ensures.tokens c.one_reading.ensures.not_both c.one_reading.ensures.fault c.tokens_have_one_value.ensures c.packets_have_no_fault.ensures c.tokens_have_one_fault.ensures
