use Rattle.ql_session.proofs.OneReply.{one_answer}
use Rattle.ql_session.proofs.laws.a_text_has_one_reply.Goals as goal

pub returns : goal.returns
returns g c =
    one_answer g.T.TableStore.words.documents c.a_statement_has_one_reply.ensures c.a_text_is_read_in_one_way.ensures.statements c.a_text_is_read_in_one_way.ensures.refusal
