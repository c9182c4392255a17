use Rattle.std.proofs.Common.{◌≡◌, ◌++◌, take}
use Rattle.std.specs.List.{flat_map}
use Rattle.root_slots.specs.States.{entry_bytes}
use Rattle.root_slots.proofs.writing.put_entries.Given as goal

abbrev pub invariant-loop-chunk : goal.invariant-loop-chunk
invariant-loop-chunk l = l.out.items ≡ l.fn.out.items ++ flat_map entry_bytes (take l.chunk-index l.chunks)
