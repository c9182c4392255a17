use Rattle.line_laws.proofs.Coding.{code_is}
use Rattle.line_laws.proofs.laws.a_refusal_has_the_code_of_its_cause.Goals as goal

pub returns : goal.returns
returns g c = λ confs old new statement event refusal replies. code_is g.T.TableStore.words.documents confs old new statement event refusal replies
