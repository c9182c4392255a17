use Rattle.std.proofs.Common.{arith, ◌∙◌, ◌+◌}
use Rattle.row_plans.proofs.Kept.{agree_on, agree_later, agree_self, agree_its}
use Rattle.row_plans.proofs.LivingRows.{gone_later, rows_end, rows_more}
use Rattle.row_plans.proofs.living.rows_of.Goals as goal

pub rows-init : goal.rows-init
rows-init g c = (agree_self (g.C.Chunk.belongs c.args.chunk.now) (g.C.Chunk.place c.args.chunk.now) 0 c.args.cursors.now c.requires.belongs, record { within = omega arith; before = λ k d h. absurd (omega (arith, h)) }, omega arith, c.new-found.ensures.items)

pub next_living-row-requires-clause-belongs : goal.next_living-row-requires-clause-belongs
next_living-row-requires-clause-belongs g c = agree_its (g.C.Chunk.belongs c.args.chunk.now) (g.C.Chunk.place c.args.chunk.now) c.rows.at c.args.cursors.now c.rows.cursors c.rows.invariant.0

pub returns-then-row-count : goal.returns-then-row-count
returns-then-row-count g c = rows_end (g.C.Chunk.belongs c.args.chunk.now) (g.C.Chunk.place c.args.chunk.now) c.args.cursors.now c.rows.cursors c.args.plan.now c.args.dead.now c.rows.at c.next_living-row.result c.rows.invariant.0 c.next_living-row.ensures.first c.args.count c.rows.found.items c.rows.invariant.2 c.if-row-count.true c.rows.invariant.3

pub rows-preserved : goal.rows-preserved
rows-preserved g c = (
  agree_later (g.C.Chunk.belongs c.args.chunk.now) (g.C.Chunk.place c.args.chunk.now) c.next_living-row.result (c.next_living-row.result + 1) c.args.cursors.now c.next_living-row.new.cursors (omega arith) (agree_on (g.C.Chunk.belongs c.args.chunk.now) (g.C.Chunk.place c.args.chunk.now) c.rows.at c.next_living-row.result c.args.cursors.now c.rows.cursors c.next_living-row.new.cursors c.next_living-row.ensures.first.on c.rows.invariant.0 c.next_living-row.ensures.agree),
  gone_later c.args.dead.now c.next_living-row.new.gone c.next_living-row.result (c.next_living-row.result + 1) (omega arith) c.next_living-row.ensures.gone,
  omega (arith, c.if-row-count.false),
  c.in_ok-push.ensures.items ∙ rows_more (g.C.Chunk.belongs c.args.chunk.now) (g.C.Chunk.place c.args.chunk.now) c.args.cursors.now c.rows.cursors c.args.plan.now c.args.dead.now c.rows.at c.next_living-row.result c.rows.invariant.0 c.next_living-row.ensures.first c.rows.found.items (omega (arith, c.if-row-count.false, c.ranges.count.fits)) c.rows.invariant.3,
)
