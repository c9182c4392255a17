use Rattle.gate_log.proofs.Standing.{read_stands}
use Rattle.gate_log.proofs.laws.a_log_that_is_read_stands.Goals as goal

pub returns : goal.returns
returns c = read_stands
