use Rattle.std.proofs.Common.{◌≡◌, refl}
use Rattle.mysql_wire.specs.Fronts.{Packet}
use Rattle.serve_line.specs.Line.{Opened}
use Rattle.serve_line.proofs.OneReading.{OnePacket, runs_once}
use Rattle.serve_line.proofs.laws.a_line_is_read_in_one_way.Goals as goal

pub returns : goal.returns
returns g c =
    let one : OnePacket = λ expect bytes p q r s first second.
    let same : Packet p r ≡ Packet q s = c.bytes_begin_in_one_way.ensures.only expect bytes (Packet p r) (Packet q s) first second in
    (cc, cc) in
    λ connection start turns more new other rest left run run' same short.
    runs_once one g.A.Answerer.machine turns more (Opened connection start) new (Opened connection start) other rest left refl run run' same short
