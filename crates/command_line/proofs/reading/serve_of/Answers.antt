use Rattle.std.proofs.Common.{◌∙◌, sym}
use Rattle.clap.specs.Words.{found_of, rows_of}
use Rattle.command_line.proofs.Pairing.{no_some}
use Rattle.command_line.proofs.ServeRead.{serve_said}
use Rattle.command_line.proofs.reading.serve_of.Goals as goal

pub returns-in_err-workers : goal.returns-in_err-workers
returns-in_err-workers c mode finds = absurd (no_some finds.workers (sym c.in_err-workers.was ∙ c.number_of.ensures finds.workers finds.finds_workers))

pub returns-in_err-sessions : goal.returns-in_err-sessions
returns-in_err-sessions c mode finds = absurd (no_some finds.sessions (sym c.in_err-sessions.was ∙ c.number_of-2.ensures finds.sessions finds.finds_sessions))

pub returns : goal.returns
returns c mode finds =
    serve_said (rows_of (found_of c.args.matches.now)) mode finds c.in_ok-config.config.now c.in_ok-listen.listen.now c.in_ok-workers.workers c.in_ok-sessions.sessions
    c.in_ok-config.ensures c.in_ok-listen.ensures
    (sym c.in_ok-workers.was ∙ c.number_of.ensures finds.workers finds.finds_workers)
    (sym c.in_ok-sessions.was ∙ c.number_of-2.ensures finds.sessions finds.finds_sessions)
