use Rattle.chunk_files.proofs.Once.{NoneFront}
use Rattle.chunk_files.proofs.files.again.Given as goal

abbrev pub invariant-chunks : goal.invariant-chunks
invariant-chunks l = NoneFront l.number l.layers
