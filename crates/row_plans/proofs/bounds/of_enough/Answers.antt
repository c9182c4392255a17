use Rattle.std.proofs.Common.{arith}
use Rattle.row_plans.specs.Cursors.{has_at}
use Rattle.row_plans.proofs.HowFar.{tally_before, rose, stopped}
use Rattle.row_plans.proofs.Kept.{agree_self, agree_its, agree_on}
use Rattle.row_plans.proofs.bounds.of_enough.Goals as goal

pub returns-then-count-least-clause-agree : goal.returns-then-count-least-clause-agree
returns-then-count-least-clause-agree g c =
    agree_on (g.C.Chunk.belongs c.args.chunk.now) (g.C.Chunk.place c.args.chunk.now) c.args.from c.args.from c.args.cursors.now c.rising.cursors c.tally-count.new.cursors (omega arith) c.rising.invariant.0 c.tally-count.ensures.agree

pub returns-then-count-least-clause-bound : goal.returns-then-count-least-clause-bound
returns-then-count-least-clause-bound g c =
    stopped c.args.least c.args.words.now (has_at (g.C.Chunk.place c.args.chunk.now) c.args.cursors.now) c.args.from c.rising.at c.tally-count.result.0 c.tally-count.result.1 c.rising.invariant.1
    (tally_before (g.C.Chunk.belongs c.args.chunk.now) (g.C.Chunk.place c.args.chunk.now) c.args.words.now c.args.from c.rising.at c.tally-count.result.0 c.tally-count.result.1 c.args.cursors.now c.rising.cursors c.rising.invariant.1 c.rising.invariant.0 c.tally-count.ensures.tally)
    (omega (arith, c.if-count-least.true)) c.rising.invariant.2

pub rising-preserved : goal.rising-preserved
rising-preserved g c = (
  agree_on (g.C.Chunk.belongs c.args.chunk.now) (g.C.Chunk.place c.args.chunk.now) c.args.from c.args.from c.args.cursors.now c.rising.cursors c.tally-count.new.cursors (omega arith) c.rising.invariant.0 c.tally-count.ensures.agree,
  omega (arith, c.tally-count.ensures.tally.on, c.rising.invariant.1),
  rose c.args.least c.args.words.now (has_at (g.C.Chunk.place c.args.chunk.now) c.args.cursors.now) c.args.from c.rising.at c.tally-count.result.0 c.tally-count.result.1
      (tally_before (g.C.Chunk.belongs c.args.chunk.now) (g.C.Chunk.place c.args.chunk.now) c.args.words.now c.args.from c.rising.at c.tally-count.result.0 c.tally-count.result.1 c.args.cursors.now c.rising.cursors c.rising.invariant.1 c.rising.invariant.0 c.tally-count.ensures.tally)
      (omega (arith, c.if-count-least.false)) c.rising.invariant.2,
)

pub rising-init : goal.rising-init
rising-init g c = (agree_self (g.C.Chunk.belongs c.args.chunk.now) (g.C.Chunk.place c.args.chunk.now) c.args.from c.args.cursors.now c.requires, omega arith, λ row m r. absurd (omega arith))

pub tally-count-requires-clause-belongs : goal.tally-count-requires-clause-belongs
tally-count-requires-clause-belongs g c = agree_its (g.C.Chunk.belongs c.args.chunk.now) (g.C.Chunk.place c.args.chunk.now) c.args.from c.args.cursors.now c.rising.cursors c.rising.invariant.0
