use Rattle.std.proofs.Common.{arith, ◌∙◌, sym, ◌+◌}
use Rattle.row_plans.proofs.Kept.{agree_on, agree_later, agree_self, agree_its}
use Rattle.row_plans.proofs.LivingRows.{first_living, shut_through, gone_later}
use Rattle.row_plans.proofs.living.next_living.Goals as goal
use Rattle.row_plans.proofs.living.next_living.Goals.{then-row-via-then-row, then-row-via-else-row+then-not-is_dead}

pub returns-then-row-clause-agree : goal.returns-then-row-clause-agree
returns-then-row-clause-agree g c = agree_on (g.C.Chunk.belongs c.args.chunk.now) (g.C.Chunk.place c.args.chunk.now) c.rows.at c.next-row.result c.args.cursors.now c.rows.cursors c.next-row.new.cursors c.next-row.ensures.first.on c.rows.invariant.0 c.next-row.ensures.agree

pub returns-then-row-clause-first : goal.returns-then-row-clause-first
returns-then-row-clause-first g c = first_living (g.C.Chunk.belongs c.args.chunk.now) (g.C.Chunk.place c.args.chunk.now) c.args.cursors.now c.rows.cursors c.args.plan.now c.args.dead.now c.args.from c.rows.at c.next-row.result c.rows.invariant.2 c.rows.invariant.0 c.rows.invariant.3 c.next-row.ensures.first (λ l. elim c.then-row.branch [
  | then-row-via-then-row w ↦ absurd (omega (arith, l, w.if-row.true))
  | then-row-via-else-row+then-not-is_dead w ↦ sym w.is_dead.ensures.dead ∙ w.if-not-is_dead.true
])

pub rows-preserved : goal.rows-preserved
rows-preserved g c = (
  agree_later (g.C.Chunk.belongs c.args.chunk.now) (g.C.Chunk.place c.args.chunk.now) c.next-row.result (c.next-row.result + 1) c.args.cursors.now c.next-row.new.cursors (omega arith) (agree_on (g.C.Chunk.belongs c.args.chunk.now) (g.C.Chunk.place c.args.chunk.now) c.rows.at c.next-row.result c.args.cursors.now c.rows.cursors c.next-row.new.cursors c.next-row.ensures.first.on c.rows.invariant.0 c.next-row.ensures.agree),
  gone_later c.args.dead.now c.is_dead.new.gone c.next-row.result (c.next-row.result + 1) (omega arith) c.is_dead.ensures.gone,
  omega (arith, c.rows.invariant.2, c.next-row.ensures.first.on),
  shut_through (g.C.Chunk.belongs c.args.chunk.now) (g.C.Chunk.place c.args.chunk.now) c.args.cursors.now c.rows.cursors c.args.plan.now c.args.dead.now c.args.from c.rows.at c.next-row.result c.rows.invariant.2 c.rows.invariant.0 c.rows.invariant.3 c.next-row.ensures.first (sym c.is_dead.ensures.dead ∙ c.if-not-is_dead.false),
)

pub rows-init : goal.rows-init
rows-init g c = (agree_self (g.C.Chunk.belongs c.args.chunk.now) (g.C.Chunk.place c.args.chunk.now) c.args.from c.args.cursors.now c.requires.belongs, c.requires.gone, omega arith, λ row m r. absurd (omega arith))

pub next-row-requires : goal.next-row-requires
next-row-requires g c = agree_its (g.C.Chunk.belongs c.args.chunk.now) (g.C.Chunk.place c.args.chunk.now) c.rows.at c.args.cursors.now c.rows.cursors c.rows.invariant.0
