use Rattle.std.proofs.Common.{arith}
use Rattle.line_workers.specs.steps.Working.{HasWorked}
use Rattle.line_workers.proofs.Places.{zip_long}
use Rattle.line_workers.proofs.Seated.{all_seated, can_work, differ_all, served_so, sit_all}
use Rattle.line_workers.proofs.all.serve_in_turn.Goals as goal

pub work_in_turn-requires-clause-can : goal.work_in_turn-requires-clause-can
work_in_turn-requires-clause-can g c = can_work g.E.Door g.E.Line.Link g.J.Naming.schema g.J.Naming.base c.args.engines c.args.sessions c.args.seats.now c.requires.ready

pub end_engines-requires-clause-many : goal.end_engines-requires-clause-many
end_engines-requires-clause-many g c =
    let seated = all_seated g.E.Door g.E.Line.Link g.J.Naming.schema g.J.Naming.base c.args.engines c.args.sessions c.args.seats.now c.requires.ready in
    let long = zip_long (HasWorked g.E.Door g.E.Line.Link g.J.Naming.schema g.J.Naming.base c.args.engines c.args.sessions) c.args.seats.now c.work_in_turn.new.seats c.work_in_turn.ensures in
    omega (arith, seated, long)

pub end_engines-requires-clause-sit : goal.end_engines-requires-clause-sit
end_engines-requires-clause-sit g c = sit_all g.E.Door g.E.Line.Link g.J.Naming.schema g.J.Naming.base c.args.engines c.args.sessions c.args.seats.now c.work_in_turn.new.seats c.work_in_turn.ensures

pub end_engines-requires-clause-differ : goal.end_engines-requires-clause-differ
end_engines-requires-clause-differ g c =
    differ_all g.E.Door g.E.Line.Link g.J.Naming.schema g.J.Naming.base c.args.engines c.args.sessions c.args.seats.now c.work_in_turn.new.seats c.requires.ready c.work_in_turn.ensures

pub returns : goal.returns
returns g c =
    served_so g.E.Door g.E.Line.Link g.J.Naming.schema g.J.Naming.base c.args.engines c.args.sessions g.D.Disk g.J.Naming.opened c.args.seats.now c.work_in_turn.new.seats c.end_engines.new.seats c.end_engines.result.items
    c.requires.ready c.work_in_turn.ensures c.end_engines.ensures.seats c.end_engines.ensures.ended
