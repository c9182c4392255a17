use Rattle.std.proofs.Common.{◌≡◌, ◌-◌}
use Rattle.byte_fields.proofs.Looping.{with_front}
use Rattle.root_slots.specs.Reading.{rows_at}
use Rattle.root_slots.proofs.reading.rows_of.Given as goal

abbrev pub invariant-loop : goal.invariant-loop
invariant-loop l = with_front l.dead.items (rows_at (l.count - l.counter) l.low l.rest) ≡ rows_at l.count 0 l.bytes
