use Rattle.store_steps.proofs.Examples.{damaged}
use Rattle.store_steps.proofs.laws.another_length_is_damage.Goals as goal

pub returns : goal.returns
returns c = damaged
