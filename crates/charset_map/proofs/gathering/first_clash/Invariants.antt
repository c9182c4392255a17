use Rattle.std.proofs.Common.{◌-◌}
use Rattle.charset_map.proofs.Joining.{HasClashWithin}
use Rattle.charset_map.proofs.gathering.first_clash.Given as goal

abbrev pub invariant-halves : goal.invariant-halves
invariant-halves l = HasClashWithin l.list l.low l.high

abbrev pub decreases-halves : goal.decreases-halves
decreases-halves l = l.high - l.low
