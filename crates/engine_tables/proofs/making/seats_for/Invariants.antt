use Rattle.std.proofs.Common.{◌≡◌}
use Rattle.engine_tables.specs.Tokens.{new_seats}
use Rattle.engine_tables.proofs.making.seats_for.Given as goal

abbrev pub invariant-loop-count : goal.invariant-loop-count
invariant-loop-count g l = l.seats.items ≡ new_seats 0 l.count
