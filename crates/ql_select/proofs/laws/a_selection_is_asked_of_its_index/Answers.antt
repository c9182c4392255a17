use Rattle.ql_select.proofs.Asked.{selection_is_asked}
use Rattle.ql_select.proofs.laws.a_selection_is_asked_of_its_index.Goals as goal

pub returns : goal.returns
returns c = selection_is_asked
