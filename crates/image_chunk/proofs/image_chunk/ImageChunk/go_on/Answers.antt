use Rattle.image_chunk.proofs.Cursors.{word_within}
use Rattle.image_chunk.proofs.image_chunk.ImageChunk.go_on.Goals as goal

pub list-requires : goal.list-requires
list-requires c = word_within c.args.self.now.image.0.1 c.args.cursor.now.word _ c.requires.belongs
