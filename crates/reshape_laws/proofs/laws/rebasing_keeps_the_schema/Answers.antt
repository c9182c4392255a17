use Rattle.reshape_laws.proofs.Schemas.{of_then}
use Rattle.reshape_laws.proofs.laws.rebasing_keeps_the_schema.Goals as goal

pub returns : goal.returns
returns c = of_then
