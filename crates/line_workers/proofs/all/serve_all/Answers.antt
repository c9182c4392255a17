use Rattle.std.proofs.Common.{arith}
use Rattle.line_workers.specs.steps.Working.{HasWorked}
use Rattle.line_workers.proofs.Places.{zip_long}
use Rattle.line_workers.proofs.Seated.{all_seated, can_work, differ_all, served_so, sit_all}
use Rattle.line_workers.proofs.all.serve_all.Goals as goal

pub work_all-requires-clause-can : goal.work_all-requires-clause-can
work_all-requires-clause-can g c κs within = can_work g.E.Door g.E.Line.Link g.J.Naming.schema g.J.Naming.base c.args.engines c.args.sessions c.args.seats.now c.requires.ready

pub end_engines-requires-clause-many : goal.end_engines-requires-clause-many
end_engines-requires-clause-many g c =
    let seated = all_seated g.E.Door g.E.Line.Link g.J.Naming.schema g.J.Naming.base c.args.engines c.args.sessions c.args.seats.now c.requires.ready in
    let long = zip_long (HasWorked g.E.Door g.E.Line.Link g.J.Naming.schema g.J.Naming.base c.args.engines c.args.sessions) c.args.seats.now c.work_all.new.seats c.work_all.ensures in
    omega (arith, seated, long)

pub end_engines-requires-clause-sit : goal.end_engines-requires-clause-sit
end_engines-requires-clause-sit g c = sit_all g.E.Door g.E.Line.Link g.J.Naming.schema g.J.Naming.base c.args.engines c.args.sessions c.args.seats.now c.work_all.new.seats c.work_all.ensures

pub end_engines-requires-clause-differ : goal.end_engines-requires-clause-differ
end_engines-requires-clause-differ g c =
    differ_all g.E.Door g.E.Line.Link g.J.Naming.schema g.J.Naming.base c.args.engines c.args.sessions c.args.seats.now c.work_all.new.seats c.requires.ready c.work_all.ensures

pub returns : goal.returns
returns g c =
    served_so g.E.Door g.E.Line.Link g.J.Naming.schema g.J.Naming.base c.args.engines c.args.sessions g.D.Disk g.J.Naming.opened c.args.seats.now c.work_all.new.seats c.end_engines.new.seats c.end_engines.result.items
    c.requires.ready c.work_all.ensures c.end_engines.ensures.seats c.end_engines.ensures.ended
