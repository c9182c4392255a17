use Rattle.conf_text.proofs.OneReading.{conf_or_fault, one_fault, same_conf}
use Rattle.conf_text.proofs.laws.a_text_is_one_configuration.Goals as goal

pub returns-clause-values : goal.returns-clause-values
returns-clause-values c = same_conf c.a_text_is_read_in_one_way.ensures.values

pub returns-clause-fault : goal.returns-clause-fault
returns-clause-fault c = one_fault

pub returns-clause-either : goal.returns-clause-either
returns-clause-either c = conf_or_fault
