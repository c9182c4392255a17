use Rattle.store_laws.proofs.ImageLaws.{image_laws}
use Rattle.store_laws.proofs.OneDamage.{found_never}
use Rattle.store_laws.proofs.SomeDirectory.{some_directory}
use Rattle.store_laws.proofs.laws.files_are_a_directory_or_damaged.Goals as goal

pub returns : goal.returns
returns c = λ schema x limits have. record {
  some = λ never_read never_damaged. some_directory schema limits x have (λ damage is. never_damaged (damage, is)) (λ found holds. never_read (found, holds));
  one = λ read damaged. found_never schema x read.0 damaged.0 limits (image_laws schema limits) read.1 damaged.1;
}
