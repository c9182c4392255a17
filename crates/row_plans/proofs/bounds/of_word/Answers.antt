use Rattle.std.proofs.Common.{arith}
use Rattle.row_plans.proofs.Kept.{agree_self, agree_one, bound_one, bound_none}
use Rattle.row_plans.proofs.bounds.of_word.Goals as goal

pub returns-then-index-cursors-clause-agree : goal.returns-then-index-cursors-clause-agree
returns-then-index-cursors-clause-agree g c = agree_self (g.C.Chunk.belongs c.args.chunk.now) (g.C.Chunk.place c.args.chunk.now) c.args.from c.args.cursors.now c.requires

pub returns-then-index-cursors-clause-bound : goal.returns-then-index-cursors-clause-bound
returns-then-index-cursors-clause-bound g c = bound_none (g.C.Chunk.belongs c.args.chunk.now) (g.C.Chunk.place c.args.chunk.now) c.args.from c.args.number c.args.cursors.now (omega arith) (omega arith)

pub returns-clause-agree : goal.returns-clause-agree
returns-clause-agree g c =
    agree_one (g.C.Chunk.belongs c.args.chunk.now) (g.C.Chunk.place c.args.chunk.now) c.args.from c.args.number c.args.cursors.now _ c.sought.new.cursor c.if-index-cursors.false c.requires c.sought.ensures.keeps

pub returns-clause-bound : goal.returns-clause-bound
returns-clause-bound g c =
    bound_one (g.C.Chunk.belongs c.args.chunk.now) (g.C.Chunk.place c.args.chunk.now) c.args.from c.sought.result c.args.number c.args.cursors.now _ c.if-index-cursors.false c.sought.ensures.bound
