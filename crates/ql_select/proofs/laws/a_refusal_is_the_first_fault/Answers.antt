use Rattle.ql_select.specs.Faults.{faults_of}
use Rattle.ql_select.proofs.FirstFaults.{is_first, none_left}
use Rattle.ql_select.proofs.laws.a_refusal_is_the_first_fault.Goals as goal

pub returns-clause-first : goal.returns-clause-first
returns-clause-first c schema select = is_first (faults_of schema select)

pub returns-clause-none : goal.returns-clause-none
returns-clause-none c schema select = none_left (faults_of schema select)
