use Rattle.std.proofs.Common.{subst}
use Rattle.std.specs.Prelude.{None, Option}
use Rattle.index_tool.specs.Asking.{Asked}
use Rattle.index_tool.specs.Runs.{Runs}
use Rattle.index_tool.specs.declared.status.ToolStatus.TheVariants.{Usage}
use Rattle.index_tool.proofs.Running.{runs_none, runs_reported}
use Rattle.index_tool.proofs.tool.indextool.Goals as goal

pub returns-in-None-clause-runs : goal.returns-in-None-clause-runs
returns-in-None-clause-runs g c =
    subst (λ (a : Option Asked). Runs g.H.ToolHost g.H.Store.Disk a Usage c.args.host.now c.report-in-None.new.host) c.in-None.ensures
    (runs_reported g.H.ToolHost g.H.Store.Disk None Usage _ c.args.host.now c.args.host.now c.report-in-None.new.host (runs_none g.H.ToolHost g.H.Store.Disk c.args.host.now) c.report-in-None.ensures.lent _ _ c.report-in-None.ensures.prints
    c.report-in-None.ensures.quiet)
