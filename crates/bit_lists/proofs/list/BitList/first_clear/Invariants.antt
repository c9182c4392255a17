use Rattle.std.proofs.Common.{◌≡◌, ◌<◌, ◌≤◌, ◌-◌, ℕ}
use Rattle.bit_lists.specs.Bits.{bit_in}
use Rattle.bit_lists.proofs.list.BitList.first_clear.Given as goal

abbrev pub invariant-bits : goal.invariant-bits
invariant-bits l = ((k : ℕ) → k < l.at → bit_in l.bytes k ≡ 1) × (l.at ≤ l.self.count)

abbrev pub decreases-bits : goal.decreases-bits
decreases-bits l = l.self.count - l.at
