use Rattle.std.proofs.Common.{◌≡◌, ◌-◌, take, drop, length, arith, length-drop, take_all}
use Rattle.mysql_wire.proofs.HandshakeLaws.{user_says}
use Rattle.mysql_wire.proofs.handshake.read_response41.Goals as goal

pub returns-in-Some : goal.returns-in-Some
returns-in-Some c =
    let payload = c.args.payload.now in
    let fields = c.in-Some.ensures.lookup.0 in
    let rest : take (length payload - 32) (drop 32 payload) ≡ drop 32 payload = take_all (length payload - 32) (drop 32 payload) (omega (arith, length-drop 32 payload)) in
    user_says payload c.in-Some.fields.now c.in_ok-flags.flags c.read_user.result c.in_ok-flags.ensures.ok fields.0 (rw rest at fields.2) c.read_user.ensures
