use Rattle.ql_answers.specs.States.{new_state}
use Rattle.ql_session.specs.Session.{statement_machine}
use Rattle.line_laws.proofs.Answered.{complete}
use Rattle.line_laws.proofs.laws.a_session_is_complete.Goals as goal

pub returns : goal.returns
returns g c = λ connection before now read written end events payloads line steady keeps.
    complete (λ expect bytes a b first second. c.bytes_begin_in_one_way.ensures.only expect bytes a b first second) (statement_machine g.T.TableStore.words.documents)
    (λ payload response place good bad. c.payload_is_one_response_or_bad.ensures.not_both payload response place good bad) before now steady connection new_state read written end events payloads line keeps
