use Rattle.std.proofs.Common.{rules}
use Rattle.image_chunk.proofs.Sizes.{sized}
use Rattle.image_chunk.proofs.joining.ImageChunkCopyBytes.size.Goals as goal

pub returns : goal.returns
returns c = sized c.args.self.now.bytes c.args.self.now.image _ (search rules)
