use Rattle.gate_log.proofs.OneReading.{alike, never_both, one_fault, one_list}
use Rattle.gate_log.proofs.laws.a_log_is_read_in_one_way.Goals as goal

pub returns-clause-reading : goal.returns-clause-reading
returns-clause-reading c = alike

pub returns-clause-records : goal.returns-clause-records
returns-clause-records c = one_list

pub returns-clause-fault : goal.returns-clause-fault
returns-clause-fault c = one_fault

pub returns-clause-one : goal.returns-clause-one
returns-clause-one c = never_both
