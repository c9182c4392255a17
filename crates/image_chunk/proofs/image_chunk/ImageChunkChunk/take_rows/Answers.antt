use Rattle.std.proofs.Common.{IsSome, refl, subst}
use Rattle.image_chunk.proofs.Cursors.{not_at_end, word_within}
use Rattle.image_chunk.proofs.image_chunk.ImageChunkChunk.take_rows.Goals as goal

pub list-list-requires : goal.list-list-requires
list-list-requires c = word_within c.args.self.now.image.0.1 c.args.cursor.now.word _ c.requires

pub go_along-requires-clause-left : goal.go_along-requires-clause-left
go_along-requires-clause-left c =
    not_at_end c.args.self.now.bytes c.args.self.now.image c.loop-taken.cursor c.loop-taken.invariant.belongs (subst IsSome c.in-Some.ensures.next refl)
