use Rattle.store_laws.proofs.ImageLaws.{image_laws}
use Rattle.store_laws.proofs.OneDamage.{one_damage}
use Rattle.store_laws.proofs.laws.a_directory_has_one_damage.Goals as goal

pub returns : goal.returns
returns c = λ schema x damage other limits. one_damage schema limits (image_laws schema limits) x damage other
