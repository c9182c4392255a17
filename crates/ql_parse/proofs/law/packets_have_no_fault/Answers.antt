use Rattle.ql_parse.proofs.Faults.{packet_no_fault}
use Rattle.ql_parse.proofs.law.packets_have_no_fault.Goals as goal

pub returns : goal.returns
returns c = packet_no_fault
