use Rattle.std.proofs.Common.{ap, sym, ◌∙◌}
use Rattle.snap_share.specs.Engines.{EngineValue}
use Rattle.engine_tables.proofs.Looking.{is_at}
use Rattle.engine_tables.proofs.engines.Engines.engine.Goals as goal

pub returns-clause-index : goal.returns-clause-index
returns-clause-index g c =
    let at = is_at c.self.inside.tables.items c.self.inside.workers c.self.inside.tables.len c.args.place c.args.self.now c.index.result.now c.self.view_is c.self.inside.tables.ok.0 c.self.invariant.1 c.requires c.index.ensures in
    ap (λ (e : EngineValue). e.index) c.engine.ensures.is ∙ at.index

pub returns-clause-workers : goal.returns-clause-workers
returns-clause-workers g c =
    let at = is_at c.self.inside.tables.items c.self.inside.workers c.self.inside.tables.len c.args.place c.args.self.now c.index.result.now c.self.view_is c.self.inside.tables.ok.0 c.self.invariant.1 c.requires c.index.ensures in
    ap (λ (e : EngineValue). e.workers) c.engine.ensures.is ∙ at.workers

pub returns-clause-of : goal.returns-clause-of
returns-clause-of g c =
    let at = is_at c.self.inside.tables.items c.self.inside.workers c.self.inside.tables.len c.args.place c.args.self.now c.index.result.now c.self.view_is c.self.inside.tables.ok.0 c.self.invariant.1 c.requires c.index.ensures in
    (c.index.result.now.conf, at.conf, ap g.J.Naming.schema (sym at.index) ∙ c.engine.ensures.of, c.engine.ensures.schema)
