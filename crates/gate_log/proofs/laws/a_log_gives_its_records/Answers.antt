use Rattle.gate_log.proofs.Standing.{gives_records}
use Rattle.gate_log.proofs.laws.a_log_gives_its_records.Goals as goal

pub returns : goal.returns
returns c = gives_records
