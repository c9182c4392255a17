use Rattle.std.proofs.Common.{◌+◌, get_or, sym, ap, arith}
use Rattle.row_plans.proofs.Seeking.{is_in}
use Rattle.row_flags.specs.steps.Tallies.{with_word}
use Rattle.row_flags.proofs.TakenRows.{changed_end, none_before, rises_ahead}
use Rattle.row_flags.proofs.tallies.tally_ahead.Goals as goal

pub returns-then-row-from-clause-each : goal.returns-then-row-from-clause-each
returns-then-row-from-clause-each g c = λ i d within.
    let rows = g.C.Chunk.content c.args.chunk.now in
    let place = g.C.Chunk.place c.args.chunk.now c.loop-row.here in
    let first = g.C.Chunk.place c.args.chunk.now c.args.cursor in
    changed_end (with_word 0) (c.args.from + i) c.args.from (get_or c.args.into.now i d) (get_or c.loop-row.into i d) place.ahead first.ahead (omega arith)
    (rises_ahead rows first (g.met.C.Chunk.places c.args.chunk.now c.args.cursor c.requires))
    (none_before c.in-Some.row (c.args.from + i) place.ahead (sym c.in-Some.ensures.next) (rises_ahead rows place (g.met.C.Chunk.places c.args.chunk.now c.loop-row.here c.loop-row.invariant.belongs))
    (omega (arith, within, c.loop-row.invariant.long, c.if-row-from.true)))
    (c.loop-row.invariant.each i d within)

pub returns-clause-each : goal.returns-clause-each
returns-clause-each g c = λ i d within.
    let first = g.C.Chunk.place c.args.chunk.now c.args.cursor in
    changed_end (with_word 0) (c.args.from + i) c.args.from (get_or c.args.into.now i d) (get_or c.loop-row.into i d) (g.C.Chunk.place c.args.chunk.now c.loop-row.here).ahead first.ahead (omega arith)
    (rises_ahead (g.C.Chunk.content c.args.chunk.now) first (g.met.C.Chunk.places c.args.chunk.now c.args.cursor c.requires))
    (ap (is_in (c.args.from + i)) c.in_default.ensures.none) (c.loop-row.invariant.each i d within)
