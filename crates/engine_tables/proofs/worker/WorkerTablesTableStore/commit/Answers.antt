use Rattle.std.proofs.Common.{ap, refl, subst}
use Rattle.std.proofs.lemmas.Result.{IfOk-weaker}
use Rattle.engine_tables.specs.Workers.{CommitsBy, WorkerValue}
use Rattle.engine_tables.specs.steps.Staying.{all_stay}
use Rattle.engine_tables.proofs.worker.WorkerTablesTableStore.commit.Goals as goal

pub returns-clause-commits : goal.returns-clause-commits
returns-clause-commits g c =
    IfOk-weaker c.commit.result _ _
    (λ outcome made. (
      made.0,
      (
        c.args.self.now,
        (refl, all_stay c.args.self.now.tokens),
        (
          ap (λ (w : WorkerValue). w.confs) c.self.view_is,
          subst (λ (w : WorkerValue). CommitsBy g.J.Naming.schema g.J.Naming.base w.tokens c.args.place c.args.txn.now.ops outcome made.0 c.commit.new.self) c.self.view_is made.1,
        ),
      ),
    ))
    c.commit.ensures.commits
