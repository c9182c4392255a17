use Rattle.std.proofs.Common.{◌+◌, ◌-◌, ◌/◌, arith}
use Rattle.doc_search.proofs.ListedIds.{halved_down, halved_up}
use Rattle.doc_search.proofs.listed_rows.first_from.Goals as goal

pub halves-preserved-then-is_below : goal.halves-preserved-then-is_below
halves-preserved-then-is_below g c =
    halved_up (g.C.Chunk.content c.args.chunk.now) c.requires.rows c.args.from c.args.number.now c.halves.low c.halves.high (c.halves.low + (c.halves.high - c.halves.low) / 2) c.is_below.result
    c.halves.invariant (omega arith) (omega (arith, c.halves-test.true)) c.is_below.ensures c.if-is_below.true

pub halves-preserved : goal.halves-preserved
halves-preserved g c =
    halved_down (g.C.Chunk.content c.args.chunk.now) c.requires.rows c.args.from c.args.number.now c.halves.low c.halves.high (c.halves.low + (c.halves.high - c.halves.low) / 2) c.is_below.result
    c.halves.invariant (omega arith) (omega (arith, c.halves-test.true)) c.is_below.ensures c.if-is_below.false
