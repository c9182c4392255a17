use Rattle.ql_write.proofs.CanonicalStatements.{packet_values}
use Rattle.ql_write.proofs.reading_law.packets_have_values.Goals as goal

pub returns : goal.returns
returns c = packet_values
