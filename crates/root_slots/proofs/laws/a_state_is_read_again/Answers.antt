use Rattle.root_slots.proofs.Inverses.{state_again}
use Rattle.root_slots.proofs.laws.a_state_is_read_again.Goals as goal

pub returns : goal.returns
returns c = state_again
