use Rattle.std.proofs.Math.Logic.{∥∥₁_elim}
use Rattle.std.proofs.Props.{props}
use Rattle.image_chunk.proofs.image_chunk.ImageChunk.zones_fit.Goals as goal

pub returns : goal.returns
returns c = ∥∥₁_elim c.args.self.now.image.1 (hlevel props) (λ is. is.zones)
