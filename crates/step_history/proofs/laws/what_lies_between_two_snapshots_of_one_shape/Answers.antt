use Rattle.step_history.proofs.Between.{since}
use Rattle.step_history.proofs.laws.what_lies_between_two_snapshots_of_one_shape.Goals as goal

pub returns : goal.returns
returns c = since
