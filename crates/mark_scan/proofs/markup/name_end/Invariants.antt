use Rattle.std.proofs.Common.{ℕ, ◌≤◌, ◌<◌, ◌-◌, length, get_or}
use Rattle.std.specs.Prelude.{IsTrue}
use Rattle.mark_scan.specs.Markup.{is_name_byte}
use Rattle.mark_scan.proofs.markup.name_end.Given as goal

abbrev pub invariant-loop-to : goal.invariant-loop-to
invariant-loop-to l = record { above : l.from ≤ l.to; within : l.to ≤ length l.bytes; name : (k : ℕ) → l.from ≤ k → k < l.to → IsTrue (is_name_byte (get_or l.bytes k 0)) }

abbrev pub decreases-loop-to : goal.decreases-loop-to
decreases-loop-to l = length l.bytes - l.to
