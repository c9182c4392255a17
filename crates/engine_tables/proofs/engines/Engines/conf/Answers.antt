use Rattle.std.proofs.Common.{ap, sym, ◌∙◌}
use Rattle.index_conf.specs.declared.conf.IndexConf.{IndexConf as ConfValue}
use Rattle.engine_tables.proofs.Looking.{is_at}
use Rattle.engine_tables.proofs.engines.Engines.conf.Goals as goal

pub returns-clause-of : goal.returns-clause-of
returns-clause-of g c =
    let at = is_at c.self.inside.tables.items c.self.inside.workers c.self.inside.tables.len c.args.place c.args.self.now c.index.result.now c.self.view_is c.self.inside.tables.ok.0 c.self.invariant.1 c.requires c.index.ensures in
    ap g.J.Naming.schema (sym at.index) ∙ c.conf.ensures.of ∙ ap (λ (conf : ConfValue). conf.schema) (sym c.conf.ensures.is)
