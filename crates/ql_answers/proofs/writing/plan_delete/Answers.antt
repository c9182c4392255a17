use Rattle.ql_answers.proofs.Placed.{placed}
use Rattle.ql_answers.proofs.Written.{deletes}
use Rattle.ql_answers.proofs.writing.plan_delete.Goals as goal

pub returns : goal.returns
returns g c =
    let served = c.in_ok-index.ensures in
    let at = placed (g.T.Catalog.confs c.args.catalog.now) c.args.name.now c.in_ok-index.index served.0 served.1 served.2 in
    deletes (g.T.Catalog.confs c.args.catalog.now) c.args.state.now c.args.name.now c.args.ids.now c.in_ok-index.index at.0 c.in_ok-txn.txn c.write.result at.1 c.in_ok-txn.ensures c.write.ensures
