use Rattle.row_select.proofs.InTwoParts.{hold_any_weight, hold_by_weight, hold_in_two}
use Rattle.row_select.proofs.laws.conditions_hold_in_two_parts.Goals as goal

pub returns-clause-all : goal.returns-clause-all
returns-clause-all c = hold_in_two

pub returns-clause-any_weight : goal.returns-clause-any_weight
returns-clause-any_weight c = λ filters row other ids values. hold_any_weight row other ids values filters

pub returns-clause-by_weight : goal.returns-clause-by_weight
returns-clause-by_weight c = λ filters row other same. hold_by_weight row other same filters
