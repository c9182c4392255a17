use Rattle.word_rows.proofs.Passing.{sought}
use Rattle.word_rows.proofs.slots.gone_over.Goals as goal

pub returns : goal.returns
returns g c = sought (g.C.Chunk.belongs c.args.chunk.now) (g.C.Chunk.place c.args.chunk.now) c.args.row c.args.cursor c.seek.new.cursor c.seek.ensures.stays c.seek.ensures.place
