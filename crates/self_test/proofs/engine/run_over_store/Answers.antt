use Rattle.std.proofs.Common.{ap, ◌∙◌}
use Rattle.engine_tables.specs.Engines.{EnginesValue}
use Rattle.self_test.proofs.Engines.{over_one}
use Rattle.self_test.proofs.engine.run_over_store.Goals as goal

pub run_over_named-requires-clause-over : goal.run_over_named-requires-clause-over
run_over_named-requires-clause-over g c =
    over_one g.D.Disk g.J.Naming.book g.J.Naming.faults g.J.Naming.stops g.J.Naming.schema g.J.Naming.base g.J.Naming.opened c.args.index c.args.store c.in-Ok-named.named.engines.confs
    (ap (λ (engines : EnginesValue). engines.confs) c.in-Ok-named.ensures.engines ∙ c.in-Ok.ensures.indexes) c.requires.ready c.requires.named
