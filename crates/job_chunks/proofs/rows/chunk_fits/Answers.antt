use Rattle.job_chunks.proofs.RowSizes.{few}
use Rattle.job_chunks.proofs.rows.chunk_fits.Goals as goal

pub returns : goal.returns
returns c = few c.args.chunk.now.image.0.0 c.args.chunk.now.image.0.1 c.args.chunk.now.bytes c.args.chunk.now.image.1
