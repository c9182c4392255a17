use Rattle.std.proofs.Common.{◌≡◌, ◌++◌, map, take}
use Rattle.doc_types.specs.Chunks.{last_position}
use Rattle.doc_types.proofs.row_parts.put_lasts.Given as goal

abbrev pub invariant-loop-field : goal.invariant-loop-field
invariant-loop-field l = l.into.items ≡ l.initial.into.items ++ map last_position (take l.field-index l.field-items)
