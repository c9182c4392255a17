use Rattle.std.proofs.Common.{All, take}
use Rattle.image_parts.specs.Images.{HasZones}
use Rattle.image_chunk.proofs.ram_chunk.zones_fit.Given as goal

abbrev pub invariant-loop-row : goal.invariant-loop-row
invariant-loop-row l = All HasZones (take l.row-index l.rows)
