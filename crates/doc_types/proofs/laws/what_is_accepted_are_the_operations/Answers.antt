use Rattle.std.specs.FinMap as finite
use Rattle.doc_types.proofs.Changes.{accepted}
use Rattle.doc_types.proofs.laws.what_is_accepted_are_the_operations.Goals as goal

pub returns : goal.returns
returns c = λ rows. accepted (λ id. finite.contains_key rows id)
