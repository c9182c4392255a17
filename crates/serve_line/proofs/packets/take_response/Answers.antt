use Rattle.mysql_wire.specs.Answered.{response_by}
use Rattle.serve_line.proofs.packets.take_response.Goals as goal

pub returns-in-Ok : goal.returns-in-Ok
returns-in-Ok c =
    let left = rw c.in-Packet.is at c.next.follows.holds-at-none in
    (c.in-Packet.payload.now, response_by c.in-Ok.field-0, left.1, left.2, c.in-Ok.ensures)
