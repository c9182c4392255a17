use Rattle.mysql_wire.proofs.FrontLaws.{each_has_one, none_has_two}
use Rattle.mysql_wire.proofs.laws.bytes_begin_in_one_way.Goals as goal

pub returns : goal.returns
returns c = record { some = each_has_one; only = none_has_two }
