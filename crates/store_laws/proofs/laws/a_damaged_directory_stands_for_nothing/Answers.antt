use Rattle.store_laws.proofs.ImageLaws.{image_laws}
use Rattle.store_laws.proofs.OneDamage.{never_damaged}
use Rattle.store_laws.proofs.laws.a_damaged_directory_stands_for_nothing.Goals as goal

pub returns : goal.returns
returns c = λ schema x rows number damage limits. never_damaged schema x rows number damage limits (image_laws schema limits)
