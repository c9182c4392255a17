use Rattle.chunk_image.proofs.AllRows.{contents_told}
use Rattle.chunk_image.proofs.rows.chunks_are_told_by_answers.Goals as goal

pub returns : goal.returns
returns g c = contents_told (g.C.Chunk.content c.args.chunk.now) (g.D.Chunk.content c.args.other.now) (g.met.C.Chunk.whole c.args.chunk.now) (g.met.D.Chunk.whole c.args.other.now) c.requires
