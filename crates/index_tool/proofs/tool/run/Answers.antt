use Rattle.std.proofs.Common.{◌≢◌, List, All, subst}
use Rattle.std.specs.List.{Contains}
use Rattle.std.specs.Str.{IsUtf8}
use Rattle.std.proofs.lemmas.List.Elements.{All-contains}
use Rattle.index_conf.specs.declared.conf.IndexConf.{IndexConf}
use Rattle.index_tool.specs.steps.Words.{said}
use Rattle.index_tool.proofs.Running.{runs_looking, runs_unconfigured, runs_unknown}
use Rattle.index_tool.proofs.tool.run.Goals as goal

pub look-requires-clause-path : goal.look-requires-clause-path
look-requires-clause-path g c =
    All-contains (λ (index : IndexConf). IsUtf8 index.path) c.in-Ok.conf.indexes c.in-Some.index.now c.in-Ok.ensures.configures.4 (subst (λ (indexes : List IndexConf). Contains indexes c.in-Some.index.now) c.as_slice.ensures c.in-Some.ensures.0)

pub returns-in-Some-clause-runs : goal.returns-in-Some-clause-runs
returns-in-Some-clause-runs g c =
    runs_looking g.H.ToolHost g.H.Store.Disk (said c.args.asked) c.in-Ok.conf c.in-Some.index.now c.look.result c.args.host.now c.configure.new.host c.look.new.host c.in-Ok.ensures.configures c.configure.ensures.asks
    (subst (λ (indexes : List IndexConf). Contains indexes c.in-Some.index.now) c.as_slice.ensures c.in-Some.ensures.0) c.in-Some.ensures.1 c.look.ensures.looks

pub returns-in-Ok-clause-runs : goal.returns-in-Ok-clause-runs
returns-in-Ok-clause-runs g c =
    runs_unknown g.H.ToolHost g.H.Store.Disk (said c.args.asked) c.in-Ok.conf c.args.host.now c.configure.new.host c.in-Ok.ensures.configures c.configure.ensures.asks
    (subst (λ (indexes : List IndexConf). All (λ (index : IndexConf). index.schema.name ≢ c.args.asked.index.now) indexes) c.as_slice.ensures c.in-None.ensures)

pub returns-clause-runs : goal.returns-clause-runs
returns-clause-runs g c = runs_unconfigured g.H.ToolHost g.H.Store.Disk (said c.args.asked) c.in-Err.status c.args.host.now c.configure.new.host c.in-Err.ensures.configures c.configure.ensures.asks
