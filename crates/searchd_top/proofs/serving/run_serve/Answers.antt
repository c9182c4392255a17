use Rattle.std.proofs.Common.{refl}
use Rattle.std.specs.Prelude.{Some}
use Rattle.command_line.specs.Modes.{serve}
use Rattle.searchd_top.proofs.Running.{runs_configured, runs_unconfigured}
use Rattle.searchd_top.proofs.serving.run_serve.Goals as goal

pub returns-in-Ok-clause-runs : goal.returns-in-Ok-clause-runs
returns-in-Ok-clause-runs g c =
    runs_configured g.H.Host g.H.Store.Disk g.H.Entry.Door g.H.Entry.Line.Link (Some (serve c.args.file.now c.args.listen.now c.args.workers c.args.sessions)) c.args.file.now c.in-Ok.conf c.serve.result c.args.host.now c.configure.new.host c.serve.new.host refl
    c.in-Ok.ensures.configures c.in-Ok.ensures.asks c.serve.ensures.serves

pub returns-in-Err-clause-runs : goal.returns-in-Err-clause-runs
returns-in-Err-clause-runs g c =
    runs_unconfigured g.H.Host g.H.Store.Disk g.H.Entry.Door g.H.Entry.Line.Link (Some (serve c.args.file.now c.args.listen.now c.args.workers c.args.sessions)) c.args.file.now c.in-Err.status c.args.host.now c.configure.new.host refl c.in-Err.ensures.configures c.in-Err.ensures.asks
