use denote.Param.Send.{sendable}
use Rattle.std.proofs.Common.{rules, slice_index_or, subst}
use Rattle.std.proofs.Crossing.{sync as heap_sync}
use Rattle.line_workers.proofs.Crossing.{engines_sync}
use Rattle.line_workers.specs.steps.Working.{HasWorked}
use Rattle.line_workers.proofs.Places.{zip_by_places}
use Rattle.line_workers.proofs.all.work_all.Goals as goal

pub for_each_mut-requires-sync-F : goal.for_each_mut-requires-sync-F
for_each_mut-requires-sync-F g c κs within = search (sendable, engines_sync, heap_sync) depth 40

pub returns : goal.returns
returns g c =
    zip_by_places (HasWorked g.E.Door g.E.Line.Link g.J.Naming.schema g.J.Naming.base c.args.engines.now c.args.sessions) c.args.seats.now c.for_each_mut.new.s (search rules)
    (λ i d below.
    let at = (c.for_each_mut.ensures i d below).1 in
    subst (λ x. HasWorked g.E.Door g.E.Line.Link g.J.Naming.schema g.J.Naming.base c.args.engines.now c.args.sessions x (slice_index_or c.for_each_mut.new.s i d)) at.argument_is
    (subst (λ y. HasWorked g.E.Door g.E.Line.Link g.J.Naming.schema g.J.Naming.base c.args.engines.now c.args.sessions at.argument.now y) at.left (search rules)))
