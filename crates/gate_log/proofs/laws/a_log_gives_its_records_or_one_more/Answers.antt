use Rattle.gate_log.proofs.Standing.{gives_either}
use Rattle.gate_log.proofs.laws.a_log_gives_its_records_or_one_more.Goals as goal

pub returns : goal.returns
returns c = gives_either
