use Rattle.ext_query.proofs.WrittenBack.{value_deep}
use Rattle.ext_query.proofs.written_law.a_value_is_one_without_the_limit.Goals as goal

pub returns : goal.returns
returns c = value_deep
