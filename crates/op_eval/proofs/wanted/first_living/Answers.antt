use Rattle.std.proofs.Common.{◌≡◌, false, true, arith, rules, sym, ◌∙◌}
use Rattle.op_eval.specs.steps.Streaming.{is_matching}
use Rattle.op_eval.proofs.NextMatches.{dead_row}
use Rattle.op_eval.proofs.RowsAhead.{end_ahead}
use Rattle.op_eval.proofs.wanted.first_living.Goals as goal

pub loop-row-preserved : goal.loop-row-preserved
loop-row-preserved g c = λ query.
    let gone : c.is_dead.result ≡ true = search rules in
    c.loop-row.invariant query ∙ dead_row query (g.C.Chunk.content c.args.chunk.now) c.args.dead.now c.loop-row.row (omega arith) (sym c.is_dead.ensures ∙ gone)

pub returns-then-not-is_dead-clause-first : goal.returns-then-not-is_dead-clause-first
returns-then-not-is_dead-clause-first g c = λ query.
    let lives : c.is_dead.result ≡ false = search rules in
    record { on = omega arith; within = omega arith; living = sym c.is_dead.ensures ∙ lives; passed = sym (c.loop-row.invariant query) }

pub returns-clause-first : goal.returns-clause-first
returns-clause-first g c = λ query.
    c.loop-row.invariant query ∙ end_ahead (is_matching query c.args.dead.now) (g.C.Chunk.content c.args.chunk.now) c.loop-row.row (omega arith)
