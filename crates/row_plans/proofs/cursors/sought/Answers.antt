use Rattle.std.proofs.Common.{arith, sym, subst, Option, Some}
use Rattle.std.specs.Option.{IfSome}
use Rattle.doc_types.specs.declared.cursor.Cursor.{Cursor}
use Rattle.row_plans.specs.Cursors.{Keeps, is_ahead}
use Rattle.row_plans.specs.Plans.{IsBound}
use Rattle.row_plans.proofs.Seeking.{sought_keeps, sought_bound}
use Rattle.row_plans.proofs.cursors.sought.Goals as goal

pub returns-in-Some-clause-keeps : goal.returns-in-Some-clause-keeps
returns-in-Some-clause-keeps g c =
    subst (λ (old : Option Cursor). Keeps (g.C.Chunk.belongs c.args.chunk.now) (g.C.Chunk.place c.args.chunk.now) c.args.from old (Some c.seek.new.cursor)) (sym c.in-Some.is)
    (sought_keeps (g.C.Chunk.belongs c.args.chunk.now) (g.C.Chunk.place c.args.chunk.now) c.args.from c.in-Some.cursor c.seek.new.cursor c.seek.ensures.place c.seek.ensures.stays)

pub returns-in-Some-clause-bound : goal.returns-in-Some-clause-bound
returns-in-Some-clause-bound g c =
    let its = subst (λ (old : Option Cursor). IfSome old (g.C.Chunk.belongs c.args.chunk.now)) c.in-Some.is c.requires in
    subst (λ (old : Option Cursor). IsBound (λ row. is_ahead (g.C.Chunk.place c.args.chunk.now) row old) c.args.from c.seek.result) (sym c.in-Some.is)
    (sought_bound (g.C.Chunk.belongs c.args.chunk.now) (g.C.Chunk.place c.args.chunk.now) c.args.from c.in-Some.cursor c.seek.new.cursor c.seek.ensures.place (g.C.Chunk.content c.args.chunk.now) c.seek.result (omega arith)
    (g.met.C.Chunk.places c.args.chunk.now c.in-Some.cursor its) c.seek.ensures.next)
