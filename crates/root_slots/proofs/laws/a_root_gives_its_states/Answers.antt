use Rattle.root_slots.proofs.Standing.{root_leaves}
use Rattle.root_slots.proofs.laws.a_root_gives_its_states.Goals as goal

pub returns : goal.returns
returns c = root_leaves
