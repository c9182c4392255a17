use Rattle.std.proofs.Common.{◌≡◌, Some, slice_get, subst}
use Rattle.std.specs.Arc.{arc_value}
use Rattle.std.proofs.lemmas.Result.{IfOk-weaker}
use Rattle.engine_tables.specs.Workers.{WorkerValue}
use Rattle.engine_tables.proofs.Sitting.{rows_of_front, sits_still}
use Rattle.engine_tables.proofs.worker.WorkerTablesTableStore.front.Goals as goal

pub invariant_of-self : goal.invariant_of-self
invariant_of-self g c = sits_still c.self.inside.engines.now c.self.inside.tokens c.read.new.self c.self.invariant c.read.ensures.grow

pub returns-clause-rows : goal.returns-clause-rows
returns-clause-rows g c =
    let conf = c.conf-conf.result.now in
    let at : slice_get c.args.self.now.confs c.args.place ≡ Some conf = subst (λ (w : WorkerValue). slice_get w.confs c.args.place ≡ Some conf) c.self.view_is c.conf-conf.ensures.is in
    IfOk-weaker c.read.result _ _ (λ shown found. (conf, at, c.conf-conf.ensures.schema, rows_of_front g.J.Naming.schema g.J.Naming.base c.read.new.self c.args.place conf (arc_value shown) c.conf-conf.ensures.of found)) c.read.ensures.found
