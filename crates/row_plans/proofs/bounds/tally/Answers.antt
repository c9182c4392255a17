use Rattle.std.proofs.Common.{arith, refl, ◌∙◌}
use Rattle.row_plans.proofs.HowFar.{told_here, told_later}
use Rattle.row_plans.proofs.Kept.{agree_self, agree_its, agree_on}
use Rattle.row_plans.proofs.bounds.tally.Goals as goal
use Rattle.row_plans.proofs.bounds.tally.Goals.{then-far-at, else-far-at}

pub overflow_add-count : goal.overflow_add-count
overflow_add-count g c = omega (arith, c.loop-word.invariant.2, c.loop-word-test.true, c.loop-word.auto.word-index-end, c.loop-word.auto.count-fits, c.well_formed)

pub loop-word-preserved : goal.loop-word-preserved
loop-word-preserved g c = (
  agree_on (g.C.Chunk.belongs c.args.chunk.now) (g.C.Chunk.place c.args.chunk.now) c.args.from c.args.from c.args.cursors.now c.loop-word.cursors c.of_word-far.new.cursors (omega arith) c.loop-word.invariant.0 c.of_word-far.ensures.agree,
  elim c.if-far-at.branch [
    | then-far-at w ↦ told_here (g.C.Chunk.belongs c.args.chunk.now) (g.C.Chunk.place c.args.chunk.now) c.args.words.now 0 c.args.from c.args.at c.of_word-far.result c.loop-word.word-index c.args.cursors.now c.loop-word.cursors
        c.loop-word-test.true c.loop-word.invariant.0 c.of_word-far.ensures.bound c.requires.end c.requires.within c.loop-word.count c.loop-word.later _ _ (omega (arith, w.if-far-at.true)) w.count-is w.later-is c.loop-word.invariant.1
    | else-far-at w ↦ told_later (g.C.Chunk.belongs c.args.chunk.now) (g.C.Chunk.place c.args.chunk.now) c.args.words.now 0 c.args.from c.args.at c.of_word-far.result c.loop-word.word-index c.args.cursors.now c.loop-word.cursors
        c.loop-word-test.true c.loop-word.invariant.0 c.of_word-far.ensures.bound c.requires.end c.requires.within c.loop-word.count c.loop-word.later _ _ (omega (arith, w.if-far-at.false)) w.count-is (w.later-is ∙ w.min-later.ensures) c.loop-word.invariant.1
  ],
  elim c.if-far-at.branch [
    | then-far-at w ↦ omega (arith, w.count-is, c.loop-word.invariant.2)
    | else-far-at w ↦ omega (arith, w.count-is, c.loop-word.invariant.2)
  ],
)

pub loop-word-init : goal.loop-word-init
loop-word-init g c = (
  agree_self (g.C.Chunk.belongs c.args.chunk.now) (g.C.Chunk.place c.args.chunk.now) c.args.from c.args.cursors.now c.requires.belongs,
  record { on = omega (arith, c.requires.end); most = λ row m r. omega arith; exact = λ e. refl },
  omega arith,
)

pub of_word-far-requires : goal.of_word-far-requires
of_word-far-requires g c = agree_its (g.C.Chunk.belongs c.args.chunk.now) (g.C.Chunk.place c.args.chunk.now) c.args.from c.args.cursors.now c.loop-word.cursors c.loop-word.invariant.0
