use Rattle.doc_types.proofs.Numbers.{rows_fit}
use Rattle.doc_types.proofs.laws.numbers_of_rows_fit.Goals as goal

pub returns : goal.returns
returns g c = rows_fit (g.C.Chunk.content c.args.chunk.now) (g.met.C.Chunk.whole c.args.chunk.now)
