use Rattle.std.proofs.Common.{None, IfSome, sym, subst, arith}
use Rattle.word_rows.specs.steps.Cursors.{Passes}
use Rattle.word_rows.proofs.Zipped.{changed_more, same_here}
use Rattle.word_rows.proofs.slots.pass_all.Goals as goal

pub passed-requires : goal.passed-requires
passed-requires g c =
    subst (λ cursor. IfSome cursor (g.C.Chunk.belongs c.args.chunk.now))
    (sym (same_here (Passes (g.C.Chunk.belongs c.args.chunk.now) (g.C.Chunk.place c.args.chunk.now) c.args.row) c.loop-at.at c.args.cursors.now c.loop-at.cursors None c.loop-at.invariant))
    (c.requires c.loop-at.at None (omega arith))

pub loop-at-preserved : goal.loop-at-preserved
loop-at-preserved g c =
    changed_more (Passes (g.C.Chunk.belongs c.args.chunk.now) (g.C.Chunk.place c.args.chunk.now) c.args.row) c.loop-at.at c.args.cursors.now c.loop-at.cursors None c.passed.result
    (omega arith) (omega arith) c.loop-at.invariant c.passed.ensures
