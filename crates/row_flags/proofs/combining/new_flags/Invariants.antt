use Rattle.std.proofs.Common.{◌≡◌, length}
use Rattle.row_flags.proofs.combining.new_flags.Given as goal

abbrev pub invariant-loop : goal.invariant-loop
invariant-loop l = length l.flags.items ≡ l.counter
