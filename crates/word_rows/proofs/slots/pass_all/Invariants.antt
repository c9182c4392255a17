use Rattle.word_rows.specs.steps.Cursors.{Passes}
use Rattle.word_rows.proofs.Zipped.{Changed}
use Rattle.word_rows.proofs.slots.pass_all.Given as goal

abbrev pub invariant-loop-at : goal.invariant-loop-at
invariant-loop-at g l = Changed (Passes (g.C.Chunk.belongs l.chunk) (g.C.Chunk.place l.chunk) l.row) l.at l.initial.cursors l.cursors
