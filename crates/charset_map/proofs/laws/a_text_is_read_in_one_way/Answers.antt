use Rattle.charset_map.proofs.Unique.{same_values, same_fault, table_or_fault, blank_is_no_table}
use Rattle.charset_map.proofs.laws.a_text_is_read_in_one_way.Goals as goal

pub returns-clause-values : goal.returns-clause-values
returns-clause-values c = same_values

pub returns-clause-fault : goal.returns-clause-fault
returns-clause-fault c = same_fault

pub returns-clause-either : goal.returns-clause-either
returns-clause-either c = table_or_fault

pub returns-clause-blank : goal.returns-clause-blank
returns-clause-blank c = blank_is_no_table
