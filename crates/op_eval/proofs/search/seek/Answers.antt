use Rattle.std.proofs.Common.{subst}
use Rattle.op_eval.specs.steps.Searching.{KnowsRow}
use Rattle.op_eval.proofs.search.seek.Goals as goal

pub returns-then-is_row-clause-at : goal.returns-then-is_row-clause-at
returns-then-is_row-clause-at g c =
    (subst (KnowsRow (g.C.Chunk.place c.args.chunk.now) (g.C.Chunk.content c.args.chunk.now) c.args.slots.now) (c.is_row.ensures c.if-is_row.true) c.requires.known).0

pub returns-then-is_row-clause-seen : goal.returns-then-is_row-clause-seen
returns-then-is_row-clause-seen g c =
    (subst (KnowsRow (g.C.Chunk.place c.args.chunk.now) (g.C.Chunk.content c.args.chunk.now) c.args.slots.now) (c.is_row.ensures c.if-is_row.true) c.requires.known).1
