use Rattle.line_laws.proofs.Answered.{complete}
use Rattle.line_laws.proofs.laws.a_client_is_answered.Goals as goal

pub returns : goal.returns
returns g c = λ connection start before now read written end events payloads line steady keeps.
    complete (λ expect bytes a b first second. c.bytes_begin_in_one_way.ensures.only expect bytes a b first second) g.A.Answerer.machine
    (λ payload response place good bad. c.payload_is_one_response_or_bad.ensures.not_both payload response place good bad) before now steady connection start read written end events payloads line keeps
