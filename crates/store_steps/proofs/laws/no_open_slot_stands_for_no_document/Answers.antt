use Rattle.store_steps.proofs.Examples.{nothing}
use Rattle.store_steps.proofs.laws.no_open_slot_stands_for_no_document.Goals as goal

pub returns : goal.returns
returns c = nothing
