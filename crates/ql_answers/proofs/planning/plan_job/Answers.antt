use Rattle.std.proofs.Common.{refl}
use Rattle.ql_answers.proofs.Placed.{placed}
use Rattle.ql_answers.proofs.planning.plan_job.Goals as goal

pub returns : goal.returns
returns g c =
    let served = c.in_ok-index.ensures in
    let at = placed (g.T.Catalog.confs c.args.catalog.now) c.args.name.now c.in_ok-index.index served.0 served.1 served.2 in
    (c.in_ok-index.index, at.0, at.1, refl)
