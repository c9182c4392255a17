use Rattle.std.proofs.Common.{rules, ◌≡◌, ◌+◌, ◌≤◌, length, arith}
use Rattle.mysql_wire.specs.Packets.{max_payload}
use Rattle.self_test.proofs.Talking.{none_left, one_less}
use Rattle.self_test.proofs.asking.count_packets.Goals as goal

pub packets-preserved : goal.packets-preserved
packets-preserved c = (
  one_less c.args.reply.now c.packets.rest.now c.behind_packet-rest.result.now c.packets.count c.packets.invariant.0 (search rules) (omega (arith, c.packets.invariant.1, c.requires.short)) c.behind_packet-rest.ensures.rest,
  omega (arith, c.packets.invariant.1, c.behind_packet-rest.ensures.shorter),
)

pub returns-clause-packets : goal.returns-clause-packets
returns-clause-packets c = none_left c.args.reply.now c.packets.rest.now c.packets.count c.packets.invariant.0 (search rules)
