use Rattle.std.proofs.Common.{◌+◌, ◌≤◌, length}
use Rattle.self_test.proofs.Talking.{Left}
use Rattle.self_test.proofs.asking.count_packets.Given as goal

abbrev pub invariant-packets : goal.invariant-packets
invariant-packets l = Left l.reply l.count l.rest × (l.count + length l.rest ≤ length l.reply)

abbrev pub decreases-packets : goal.decreases-packets
decreases-packets l = length l.rest
