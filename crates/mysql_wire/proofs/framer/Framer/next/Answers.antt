use Rattle.std.proofs.Common.{◌≡◌, ◌-◌, ◌+◌, length, take, drop, refl, arith, length-drop, take_all}
use Rattle.mysql_wire.proofs.PacketLemmas.{begins_at}
use Rattle.mysql_wire.proofs.framer.Framer.next.Goals as goal

pub returns-in-Whole : goal.returns-in-Whole
returns-in-Whole c =
    let all = c.self.inside.bytes.items in
    let start = c.self.inside.start in
    let live : take (length all - start) (drop start all) ≡ drop start all = take_all (length all - start) (drop start all) (omega (arith, length-drop start all)) in
    let here = rw (c.deref.ensures.value, live) at c.in-Whole.ensures.1 in
    let front = begins_at c.args.expect start c.in-Whole.size all here in
    rw (c.deref-in-Whole.ensures.value, ← c.self.view_is) (
      (refl, λ _. tt, (c.in_default.is, front, c.in_default.is)),
      record { leaves = tt; answers = (refl, (record { held = drop (start + 4 + c.in-Whole.size) all; refused = c.self.inside.refused; room = 0 }, (c.in_default.is, front, c.in_default.is))) },
    )
