use Rattle.std.proofs.Common.{arith}
use Rattle.doc_search.proofs.Passing.{by_none, by_one_more}
use Rattle.doc_search.proofs.scanning.first_passing.Goals as goal

pub rows-init : goal.rows-init
rows-init g c = by_none c.args.asked.now (g.C.Chunk.content c.args.chunk.now) c.args.from c.requires.from

pub rows-preserved : goal.rows-preserved
rows-preserved g c =
    by_one_more c.args.asked.now (g.C.Chunk.content c.args.chunk.now) c.args.from c.rows.row c.passes.result c.rows.invariant (omega (arith, c.rows-test.true, c.min-end.ensures, c.rows-2.ensures)) c.passes.ensures c.if-passes.false
