use Rattle.damage_laws.proofs.NoDamage.{are_undamaged, no_damage}
use Rattle.damage_laws.proofs.laws.an_image_has_no_damage.Goals as goal

pub returns-clause-parts : goal.returns-clause-parts
returns-clause-parts c = are_undamaged

pub returns-clause-none : goal.returns-clause-none
returns-clause-none c = no_damage
