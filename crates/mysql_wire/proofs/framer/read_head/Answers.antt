use Rattle.std.proofs.Common.{◌≡◌, ◌+◌, ◌≤◌, Some, length, arith, rules, length-drop}
use Rattle.mysql_wire.specs.Packets.{header_of, max_payload}
use Rattle.mysql_wire.proofs.PacketLemmas.{begins}
use Rattle.mysql_wire.proofs.framer.read_head.Goals as goal

pub returns : goal.returns
returns c =
    let held = c.args.held.now in
    let size = c.from_le_bytes-length.result in
    let header : header_of held ≡ Some (size, c.args.expect) = search rules in
    let limit : size ≤ max_payload = search rules in
    let whole : 4 + size ≤ length held = omega (arith, length-drop 4 held, c.if-payload-length.false, c.in-len4-up.len_at_least) in
    (header, begins c.args.expect size held (λ i. omega (arith, c.type_inv.held i)) header limit whole, whole)
