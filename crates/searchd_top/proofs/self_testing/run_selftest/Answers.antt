use Rattle.std.proofs.Common.{subst, sym, List, ℕ}
use Rattle.searchd_top.proofs.Running.{runs_printed, runs_unprinted}
use Rattle.searchd_top.specs.Selftests.{HasEnded}
use Rattle.searchd_top.proofs.self_testing.run_selftest.Goals as goal

pub returns-in-Ok-clause-runs : goal.returns-in-Ok-clause-runs
returns-in-Ok-clause-runs g c =
    runs_printed g.H.Host g.H.Store.Disk g.H.Entry.Door g.H.Entry.Line.Link c.args.number c.args.docs c.print_output.result c.as_bytes.result.now c.args.host.now c.print_output.new.host
    (subst (λ (lines : List ℕ). HasEnded c.args.number c.args.docs lines) (sym c.as_bytes.ensures.value) c.in-Ok.ensures.ended) c.print_output.ensures.prints
    c.print_output.ensures.lent c.print_output.ensures.asks c.print_output.ensures.count

pub returns-in-Err-clause-runs : goal.returns-in-Err-clause-runs
returns-in-Err-clause-runs g c = runs_unprinted g.H.Host g.H.Store.Disk g.H.Entry.Door g.H.Entry.Line.Link c.args.number c.args.docs c.in-Err.status c.args.host.now c.in-Err.ensures.ends
