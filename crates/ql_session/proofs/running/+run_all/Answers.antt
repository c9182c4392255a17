use Rattle.std.proofs.Common.{List, Bool, not, ap, sym, subst, ◌∙◌}
use Rattle.ql_tree.specs.declared.statement.Statement.{Statement}
use Rattle.ql_session.specs.steps.Running.{Runs, RunsAll}
use Rattle.ql_session.proofs.Several.{more_by_length, none_left, runs_last, runs_on}
use Rattle.ql_session.proofs.running.+run_all.Goals as goal

pub returns-in-None-clause-runs : goal.returns-in-None-clause-runs
returns-in-None-clause-runs g t c = none_left g.T.Catalog.confs g.T.TableStore.words c.args.tables.now c.args.machine.now.state c.args.statements.now c.args.replies.now c.in-None.ensures.cases

pub returns-then-not-is_refused-clause-runs : goal.returns-then-not-is_refused-clause-runs
returns-then-not-is_refused-clause-runs g t c =
    let rest : List Statement = c.in-Some.rest.now in
    let more = ap not c.is_empty-more.ensures ∙ more_by_length rest in
    let runs = subst (λ (b : Bool). Runs g.T.Catalog.confs g.T.TableStore.words c.args.tables.now c.args.machine.now.state c.in-Some.statement.now b c.run.new.tables c.run.new.machine.state c.args.replies.now c.run.new.replies) more c.run.ensures in
    subst (λ (all : List Statement). RunsAll g.T.Catalog.confs g.T.TableStore.words c.args.tables.now c.args.machine.now.state all c.run_all.new.tables c.run_all.new.machine.state c.args.replies.now c.run_all.new.replies) (sym c.in-Some.ensures.cases.0)
    (runs_on g.T.Catalog.confs g.T.TableStore.words c.args.tables.now c.run.new.tables c.run_all.new.tables c.args.machine.now.state c.run.new.machine.state c.run_all.new.machine.state c.in-Some.statement.now rest c.args.replies.now c.run.new.replies c.run_all.new.replies
    runs (sym c.is_refused.ensures ∙ c.if-not-is_refused.true) c.run_all.ensures.runs)

pub returns-else-not-is_refused-clause-runs : goal.returns-else-not-is_refused-clause-runs
returns-else-not-is_refused-clause-runs g t c =
    let rest : List Statement = c.in-Some.rest.now in
    let more = ap not c.is_empty-more.ensures ∙ more_by_length rest in
    let runs = subst (λ (b : Bool). Runs g.T.Catalog.confs g.T.TableStore.words c.args.tables.now c.args.machine.now.state c.in-Some.statement.now b c.run.new.tables c.run.new.machine.state c.args.replies.now c.run.new.replies) more c.run.ensures in
    subst (λ (all : List Statement). RunsAll g.T.Catalog.confs g.T.TableStore.words c.args.tables.now c.args.machine.now.state all c.run.new.tables c.run.new.machine.state c.args.replies.now c.run.new.replies) (sym c.in-Some.ensures.cases.0)
    (runs_last g.T.Catalog.confs g.T.TableStore.words c.args.tables.now c.run.new.tables c.args.machine.now.state c.run.new.machine.state c.in-Some.statement.now rest c.args.replies.now c.run.new.replies
    runs (sym c.is_refused.ensures ∙ c.if-not-is_refused.false))
