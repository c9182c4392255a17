use Rattle.ql_session.proofs.OneCommand.{one_command}
use Rattle.ql_session.proofs.laws.a_command_has_one_reply.Goals as goal

pub returns : goal.returns
returns g c = one_command g.T.TableStore.words.documents c.a_text_has_one_reply.ensures
