use Rattle.std.proofs.Common.{◌+◌}
use Rattle.doc_search.proofs.windows.offer_bounded.Goals as goal

pub offer_within-requires-clause-weighs : goal.offer_within-requires-clause-weighs
offer_within-requires-clause-weighs g c = λ doc here.
    c.in-Some.ensures (g.C.Chunk.content c.args.chunk.now) c.requires.told.0 (c.args.from + c.args.index) doc c.requires.asked here
    (c.requires.told.1.each c.args.index doc c.told_at.result here c.told_at.ensures) (c.requires.found c.told_at.result c.told_at.ensures)
