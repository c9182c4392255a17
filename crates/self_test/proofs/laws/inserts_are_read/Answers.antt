use Rattle.self_test.specs.Texts.{insert_statement}
use Rattle.self_test.proofs.Values.{insert_value, states_one}
use Rattle.self_test.proofs.laws.inserts_are_read.Goals as goal

pub returns : goal.returns
returns c = λ id document below small. states_one c.canonical_text_is_read.ensures.reads (insert_statement id document) (insert_value id document below small)
