use Rattle.ql_parse.proofs.Faults.{one_fault}
use Rattle.ql_parse.proofs.law.tokens_have_one_fault.Goals as goal

pub returns : goal.returns
returns c = one_fault
