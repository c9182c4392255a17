use Rattle.ql_lex.proofs.Unique.{tokens_unique, not_both, fault_unique}
use Rattle.ql_lex.proofs.laws.one_reading.Goals as goal

pub returns-clause-tokens : goal.returns-clause-tokens
returns-clause-tokens c = tokens_unique

pub returns-clause-not_both : goal.returns-clause-not_both
returns-clause-not_both c = not_both

pub returns-clause-fault : goal.returns-clause-fault
returns-clause-fault c = fault_unique
