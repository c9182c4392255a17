-- The payload is the pieces one after the other, each of which is known cell by cell.
use Rattle.std.proofs.Common.{ap, refl, ◌∙◌}
use Rattle.mysql_wire.specs.Packets.{packet}
use Rattle.mysql_wire.specs.Replies.{greeting_payload}
use Rattle.mysql_wire.proofs.small.greeting.Goals as goal

pub returns : goal.returns
unfolding greeting_payload
returns c =
    c.framed.ensures
    ∙ ap (packet 0) (c.bytes.ensures.value ∙ rw (c.put-6.ensures, c.put-5.ensures, c.put-4.ensures, c.put-3.ensures, c.put-2.ensures, c.to_le_bytes.ensures, c.put.ensures, c.empty-payload.ensures) refl)
