use Rattle.ql_parse.proofs.OncePackets.{one_packet}
use Rattle.ql_parse.proofs.law.tokens_have_one_value.Goals as goal

pub returns : goal.returns
returns c = one_packet
