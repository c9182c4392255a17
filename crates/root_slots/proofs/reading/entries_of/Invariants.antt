use Rattle.std.proofs.Common.{◌≡◌, ◌-◌}
use Rattle.byte_fields.proofs.Looping.{with_front}
use Rattle.root_slots.specs.Reading.{entries_at}
use Rattle.root_slots.proofs.reading.entries_of.Given as goal

abbrev pub invariant-loop : goal.invariant-loop
invariant-loop l = with_front l.chunks.items (entries_at l.next_file (l.count - l.counter) l.before.items l.rest) ≡ entries_at l.next_file l.count l.named l.bytes
