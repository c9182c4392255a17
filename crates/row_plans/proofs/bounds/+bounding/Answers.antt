use Rattle.std.proofs.Common.{arith, refl}
use Rattle.row_plans.proofs.HowFar.{word_bound, all_bound, any_bound, enough_bound, all_ends, all_more, any_ends, any_more}
use Rattle.row_plans.proofs.Kept.{agree_self, agree_its, agree_on}
use Rattle.row_plans.proofs.bounds.+bounding.Goals as goal

pub bound-returns-in-Word-clause-bound : goal.bound-returns-in-Word-clause-bound
bound-returns-in-Word-clause-bound g t c =
    word_bound (g.C.Chunk.belongs c.args.chunk.now) (g.C.Chunk.place c.args.chunk.now) c.args.cursors.now c.args.from c.of_word.result c.args.plan.now c.in-Word.number c.in-Word.is c.of_word.ensures.bound

pub bound-returns-in-All-clause-bound : goal.bound-returns-in-All-clause-bound
bound-returns-in-All-clause-bound g t c =
    all_bound (g.C.Chunk.belongs c.args.chunk.now) (g.C.Chunk.place c.args.chunk.now) c.args.cursors.now c.args.from c.of_all.result c.args.plan.now c.in-All.parts c.as_slice.result.now c.in-All.is c.as_slice.ensures c.of_all.ensures.bound

pub bound-returns-in-Any-clause-bound : goal.bound-returns-in-Any-clause-bound
bound-returns-in-Any-clause-bound g t c =
    any_bound (g.C.Chunk.belongs c.args.chunk.now) (g.C.Chunk.place c.args.chunk.now) c.args.cursors.now c.args.from c.of_any.result c.args.plan.now c.in-Any.parts c.as_slice-in-Any.result.now c.in-Any.is c.as_slice-in-Any.ensures c.of_any.ensures.bound

pub bound-returns-in-Enough-clause-bound : goal.bound-returns-in-Enough-clause-bound
bound-returns-in-Enough-clause-bound g t c =
    enough_bound (g.C.Chunk.belongs c.args.chunk.now) (g.C.Chunk.place c.args.chunk.now) c.args.cursors.now c.args.from c.of_enough.result c.args.plan.now c.in-Enough.least c.in-Enough.words c.as_slice-in-Enough.result.now c.in-Enough.is c.as_slice-in-Enough.ensures c.of_enough.ensures.bound

pub of_all-returns-then-far-from-clause-agree : goal.of_all-returns-then-far-from-clause-agree
of_all-returns-then-far-from-clause-agree g t c =
    agree_on (g.C.Chunk.belongs c.args.chunk.now) (g.C.Chunk.place c.args.chunk.now) c.args.from c.args.from c.args.cursors.now c.loop-part.cursors c.bound-far.new.cursors (omega arith) c.loop-part.invariant.0 c.bound-far.ensures.agree

pub of_all-returns-then-far-from-clause-bound : goal.of_all-returns-then-far-from-clause-bound
of_all-returns-then-far-from-clause-bound g t c =
    all_ends (g.C.Chunk.belongs c.args.chunk.now) (g.C.Chunk.place c.args.chunk.now) c.args.parts.now c.args.cursors.now c.loop-part.cursors c.args.from c.bound-far.result c.loop-part.part-index c.part-item.result
    c.loop-part-test.true c.part-item.is c.loop-part.invariant.0 c.bound-far.ensures.bound (omega (arith, c.if-far-from.true))

pub of_all-loop-part-preserved : goal.of_all-loop-part-preserved
of_all-loop-part-preserved g t c = (
  agree_on (g.C.Chunk.belongs c.args.chunk.now) (g.C.Chunk.place c.args.chunk.now) c.args.from c.args.from c.args.cursors.now c.loop-part.cursors c.bound-far.new.cursors (omega arith) c.loop-part.invariant.0 c.bound-far.ensures.agree,
  all_more (g.C.Chunk.belongs c.args.chunk.now) (g.C.Chunk.place c.args.chunk.now) c.args.parts.now c.args.cursors.now c.loop-part.cursors c.args.from c.bound-far.result c.loop-part.part-index c.part-item.result
      c.loop-part-test.true c.part-item.is c.loop-part.invariant.0 c.bound-far.ensures.bound (omega (arith, c.if-far-from.false, c.bound-far.ensures.bound.on)) c.loop-part.invariant.1,
  agree_its (g.C.Chunk.belongs c.args.chunk.now) (g.C.Chunk.place c.args.chunk.now) c.args.from c.loop-part.cursors c.bound-far.new.cursors c.bound-far.ensures.agree,
)

pub of_any-returns-then-far-from-clause-agree : goal.of_any-returns-then-far-from-clause-agree
of_any-returns-then-far-from-clause-agree g t c =
    agree_on (g.C.Chunk.belongs c.args.chunk.now) (g.C.Chunk.place c.args.chunk.now) c.args.from c.args.from c.args.cursors.now c.loop-part.cursors c.bound-far.new.cursors (omega arith) c.loop-part.invariant.0 c.bound-far.ensures.agree

pub of_any-returns-then-far-from-clause-bound : goal.of_any-returns-then-far-from-clause-bound
of_any-returns-then-far-from-clause-bound g t c =
    any_ends (g.C.Chunk.belongs c.args.chunk.now) (g.C.Chunk.place c.args.chunk.now) c.args.parts.now c.args.cursors.now c.loop-part.cursors c.args.from c.bound-far.result c.loop-part.part-index c.part-item.result
    c.loop-part-test.true c.part-item.is c.loop-part.invariant.0 c.bound-far.ensures.bound (omega (arith, c.if-far-from.true))

pub of_any-loop-part-preserved : goal.of_any-loop-part-preserved
of_any-loop-part-preserved g t c = (
  agree_on (g.C.Chunk.belongs c.args.chunk.now) (g.C.Chunk.place c.args.chunk.now) c.args.from c.args.from c.args.cursors.now c.loop-part.cursors c.bound-far.new.cursors (omega arith) c.loop-part.invariant.0 c.bound-far.ensures.agree,
  omega (arith, c.min-least.ensures, c.loop-part.invariant.1, c.bound-far.ensures.bound.on),
  (λ l. omega (arith, c.min-least.ensures, c.loop-part.invariant.2 l, c.bound-far.ensures.bound.on, c.if-far-from.false)),
  any_more (g.C.Chunk.belongs c.args.chunk.now) (g.C.Chunk.place c.args.chunk.now) c.args.parts.now c.args.cursors.now c.loop-part.cursors c.args.from c.bound-far.result c.loop-part.part-index c.part-item.result
      c.loop-part-test.true c.part-item.is c.loop-part.invariant.0 c.bound-far.ensures.bound c.loop-part.least c.min-least.result (omega (arith, c.min-least.ensures)) (omega (arith, c.min-least.ensures)) c.loop-part.invariant.3,
  agree_its (g.C.Chunk.belongs c.args.chunk.now) (g.C.Chunk.place c.args.chunk.now) c.args.from c.loop-part.cursors c.bound-far.new.cursors c.bound-far.ensures.agree,
)

pub of_all-loop-part-init : goal.of_all-loop-part-init
of_all-loop-part-init g t c = (agree_self (g.C.Chunk.belongs c.args.chunk.now) (g.C.Chunk.place c.args.chunk.now) c.args.from c.args.cursors.now c.requires, (λ l. refl), c.requires)

pub of_any-loop-part-init : goal.of_any-loop-part-init
of_any-loop-part-init g t c = (agree_self (g.C.Chunk.belongs c.args.chunk.now) (g.C.Chunk.place c.args.chunk.now) c.args.from c.args.cursors.now c.requires, omega arith, (λ l. l), (λ row m r. refl), c.requires)
