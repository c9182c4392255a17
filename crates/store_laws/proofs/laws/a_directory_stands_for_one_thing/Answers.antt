use Rattle.store_laws.proofs.OneDirectory.{one_directory, one_meaning}
use Rattle.store_laws.proofs.laws.a_directory_stands_for_one_thing.Goals as goal

pub returns-clause-holds : goal.returns-clause-holds
returns-clause-holds c = one_directory

pub returns-clause-stands : goal.returns-clause-stands
returns-clause-stands c = one_meaning
