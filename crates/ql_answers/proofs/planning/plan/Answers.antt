use Rattle.std.proofs.Common.{subst, sym}
use Rattle.ql_tree.specs.declared.statement.Statement.{Statement}
use Rattle.ql_answers.specs.steps.Planning.{Planned}
use Rattle.ql_answers.proofs.planning.plan.Goals as goal

pub returns-in-SetAutocommit : goal.returns-in-SetAutocommit
returns-in-SetAutocommit g c =
    let confs = g.T.Catalog.confs c.args.catalog.now in
    subst (λ (statement : Statement). Planned confs c.args.state.now statement c.plan_autocommit.result) (sym c.in-SetAutocommit.is) (c.plan_autocommit.ensures confs)
