use Rattle.damage_laws.proofs.OneDamage.{one_damage}
use Rattle.damage_laws.proofs.laws.bytes_have_one_first_damage.Goals as goal

pub returns : goal.returns
returns c = one_damage
