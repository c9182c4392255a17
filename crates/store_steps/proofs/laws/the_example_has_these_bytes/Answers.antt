use Rattle.store_steps.proofs.Examples.{log_bytes, root_bytes}
use Rattle.store_steps.proofs.laws.the_example_has_these_bytes.Goals as goal

pub returns : goal.returns
returns c = record { log = log_bytes; root = root_bytes }
