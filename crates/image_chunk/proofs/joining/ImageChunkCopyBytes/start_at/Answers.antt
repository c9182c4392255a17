use Rattle.image_chunk.specs.Places.{place_in}
use Rattle.image_chunk.proofs.JoinedLayers.{started}
use Rattle.std.proofs.Common.{rules}
use Rattle.image_chunk.proofs.joining.ImageChunkCopyBytes.start_at.Goals as goal

pub returns-clause-first : goal.returns-clause-first
returns-clause-first c =
    started c.args.self.now.image.0.0 c.args.self.now.image.0.1 c.args.n (place_in c.args.self.now.image.0.0 c.args.self.now.image.0.1 c.front.result) (search rules) c.front.ensures.first
