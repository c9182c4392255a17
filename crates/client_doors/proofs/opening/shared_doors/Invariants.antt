use Rattle.std.proofs.Common.{◌≡◌, length, All}
use Rattle.client_doors.specs.Fresh.{IsFresh}
use Rattle.client_doors.proofs.opening.shared_doors.Given as goal

abbrev pub invariant-loop : goal.invariant-loop
invariant-loop l = (length l.doors.items ≡ l.counter) × All IsFresh l.doors.items
