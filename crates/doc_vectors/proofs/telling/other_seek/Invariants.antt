use Rattle.doc_vectors.proofs.telling.other_seek.Given as goal

abbrev pub invariant-rows : goal.invariant-rows
invariant-rows g l = g.C.Chunk.belongs l.chunk l.going
