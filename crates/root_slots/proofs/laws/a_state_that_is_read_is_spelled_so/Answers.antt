use Rattle.root_slots.proofs.Inverses.{state_takes}
use Rattle.root_slots.proofs.laws.a_state_that_is_read_is_spelled_so.Goals as goal

pub returns : goal.returns
returns c = state_takes
