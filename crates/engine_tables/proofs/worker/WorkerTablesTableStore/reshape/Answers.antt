use Rattle.std.proofs.lemmas.Result.{IfOk-weaker}
use Rattle.engine_tables.proofs.Working.{worked_store}
use Rattle.engine_tables.proofs.worker.WorkerTablesTableStore.reshape.Goals as goal

pub returns-clause-reshapes : goal.returns-clause-reshapes
returns-clause-reshapes g c =
    IfOk-weaker c.reshape.result _ _
    (λ outcome made. (
      made.1,
      made.2,
      worked_store g.J.Naming.schema g.J.Naming.base c.self.inside.engines.now.confs c.self.inside.tokens c.args.self.now c.args.place c.args.job outcome made.0 made.1 made.2 c.reshape.new.self c.self.view_is made.3 made.4 made.5,
    ))
    c.reshape.ensures.reshapes
