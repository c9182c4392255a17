use Rattle.std.proofs.Common.{◌<◌, length, arith}
use Rattle.image_join.proofs.Ahead.{next_below}
use Rattle.image_join.proofs.lists.collect_from.Goals as goal

pub bounds-numbers-first : goal.bounds-numbers-first
bounds-numbers-first g c =
    let place = g.C.Chunk.place c.args.chunk.now c.loop-row.cursor in
    let low : c.in-Some.row < length (g.C.Chunk.content c.args.chunk.now) =
    next_below (g.C.Chunk.content c.args.chunk.now) place c.in-Some.row (g.met.C.Chunk.places c.args.chunk.now c.loop-row.cursor c.loop-row.invariant.belongs) c.in-Some.ensures.next in
    omega (arith, low, c.requires.within)
