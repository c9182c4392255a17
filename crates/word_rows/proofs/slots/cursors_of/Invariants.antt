use Rattle.std.proofs.Common.{map, take}
use Rattle.std.specs.List.{AllZip}
use Rattle.word_rows.specs.Slots.{Stands}
use Rattle.word_rows.proofs.slots.cursors_of.Given as goal

abbrev pub invariant-loop-key : goal.invariant-loop-key
invariant-loop-key g l = AllZip (Stands (g.C.Chunk.belongs l.chunk) (g.C.Chunk.place l.chunk) (g.C.Chunk.content l.chunk) 0) (map (λ key. key.now.word) (take l.key-index l.keys)) l.cursors.items
