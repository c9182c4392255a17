use Rattle.ql_session.proofs.OneReply.{one_reply}
use Rattle.ql_session.proofs.laws.a_statement_has_one_reply.Goals as goal

pub returns : goal.returns
returns g c =
    one_reply c.a_statement_has_one_plan.ensures.plan c.a_statement_has_one_plan.ensures.refusal c.a_statement_has_one_plan.ensures.not_both c.a_plan_has_one_reply.ensures.reply g.T.TableStore.words.documents
