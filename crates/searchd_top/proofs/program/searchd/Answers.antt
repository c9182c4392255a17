use Rattle.std.proofs.Common.{map, string_bytes}
use Rattle.command_line.specs.Modes.{mode}
use Rattle.program_host.specs.Statuses.{line_of}
use Rattle.program_host.specs.declared.host.Stream.TheVariants.{Err as Errors}
use Rattle.searchd_top.proofs.Running.{reported, runs_reported}
use Rattle.searchd_top.proofs.program.searchd.Goals as goal

pub returns-clause-runs : goal.returns-clause-runs
returns-clause-runs g c =
    runs_reported g.H.Host g.H.Store.Disk g.H.Entry.Door g.H.Entry.Line.Link (mode (map string_bytes c.args.words.now)) c.run-status.result (line_of c.run-status.result)
    c.args.host.now c.run-status.new.host c.report.new.host c.run-status.ensures.runs c.report.ensures.lent c.report.ensures.asks c.report.ensures.count _ _ c.report.ensures.prints c.report.ensures.quiet

pub returns-clause-prints : goal.returns-clause-prints
returns-clause-prints g c =
    reported (line_of c.run-status.result) (g.H.Host.printed c.args.host.now) (g.H.Host.printed c.run-status.new.host) (g.H.Host.printed c.report.new.host)
    (g.H.Host.print_faults c.args.host.now Errors) (g.H.Host.print_faults c.run-status.new.host Errors) (g.H.Host.print_faults c.report.new.host Errors)
    c.run-status.ensures.errors c.run-status.ensures.quiet c.report.ensures.prints
