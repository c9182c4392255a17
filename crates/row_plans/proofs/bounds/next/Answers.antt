use Rattle.std.proofs.Common.{arith, sym, ap, ◌∙◌, ℕ, Bool}
use Rattle.row_plans.specs.Plans.{holds}
use Rattle.row_plans.proofs.HowFar.{leapt}
use Rattle.row_plans.proofs.Kept.{agree_self, agree_its, agree_same, agree_on, agree_later}
use Rattle.row_plans.proofs.bounds.next.Goals as goal

pub returns-then-far-at-clause-agree : goal.returns-then-far-at-clause-agree
returns-then-far-at-clause-agree g c =
    agree_on (g.C.Chunk.belongs c.args.chunk.now) (g.C.Chunk.place c.args.chunk.now) c.leap.at c.leap.at c.args.cursors.now c.leap.cursors c.bound-far.new.cursors (omega arith) c.leap.invariant.0 c.bound-far.ensures.agree

pub leap-preserved : goal.leap-preserved
leap-preserved g c = (
  agree_on (g.C.Chunk.belongs c.args.chunk.now) (g.C.Chunk.place c.args.chunk.now) c.leap.at c.bound-far.result c.args.cursors.now c.leap.cursors c.bound-far.new.cursors c.bound-far.ensures.bound.on c.leap.invariant.0 (
      agree_later (g.C.Chunk.belongs c.args.chunk.now) (g.C.Chunk.place c.args.chunk.now) c.leap.at c.bound-far.result c.leap.cursors c.bound-far.new.cursors c.bound-far.ensures.bound.on c.bound-far.ensures.agree),
  omega (arith, c.leap.invariant.1, c.bound-far.ensures.bound.on),
  leapt (g.C.Chunk.belongs c.args.chunk.now) (g.C.Chunk.place c.args.chunk.now) (λ (has : ℕ → Bool). holds has c.args.plan.now) c.args.from c.leap.at c.bound-far.result c.args.cursors.now c.leap.cursors c.leap.invariant.1 c.leap.invariant.0 c.leap.invariant.2 c.bound-far.ensures.bound,
)

pub leap-init : goal.leap-init
leap-init g c = (agree_self (g.C.Chunk.belongs c.args.chunk.now) (g.C.Chunk.place c.args.chunk.now) c.args.from c.args.cursors.now c.requires, omega arith, λ row m r. absurd (omega arith))

pub bound-far-requires : goal.bound-far-requires
bound-far-requires g c = agree_its (g.C.Chunk.belongs c.args.chunk.now) (g.C.Chunk.place c.args.chunk.now) c.leap.at c.args.cursors.now c.leap.cursors c.leap.invariant.0

pub returns-then-far-at-clause-first : goal.returns-then-far-at-clause-first
returns-then-far-at-clause-first g c = record {
  on = c.leap.invariant.1;
  none = c.leap.invariant.2;
  found = λ l.
      ap (λ (has : ℕ → Bool). holds has c.args.plan.now) (sym (agree_same (g.C.Chunk.belongs c.args.chunk.now) (g.C.Chunk.place c.args.chunk.now) c.leap.at c.leap.at c.args.cursors.now c.leap.cursors (omega arith) c.leap.invariant.0))
      ∙ c.bound-far.ensures.bound.stands (omega (arith, c.if-far-at.true)) l;
}
