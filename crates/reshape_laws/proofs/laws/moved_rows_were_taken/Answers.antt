use Rattle.reshape_laws.proofs.Rebased.{moved_taken}
use Rattle.reshape_laws.proofs.laws.moved_rows_were_taken.Goals as goal

pub returns : goal.returns
returns c = moved_taken
