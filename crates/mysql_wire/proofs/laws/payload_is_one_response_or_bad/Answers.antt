use Rattle.mysql_wire.proofs.HandshakeLaws.{one_response, one_place, not_both, one_of_both}
use Rattle.mysql_wire.proofs.laws.payload_is_one_response_or_bad.Goals as goal

pub returns : goal.returns
returns c = record { either = one_of_both; not_both = not_both; response = one_response; place = one_place }
