use Rattle.std.proofs.Common.{map, string_bytes}
use Rattle.clap.specs.Words.{app_of, found_of, rows_of}
use Rattle.command_line.specs.Modes.{selftest_of}
use Rattle.command_line.specs.steps.Words.{value_in}
use Rattle.command_line.proofs.SelftestRead.{selftest_refused, selftest_taken}
use Rattle.command_line.proofs.reading.read_selftest.Goals as goal

pub returns-in-Some : goal.returns-in-Some
returns-in-Some c =
    let words = map string_bytes c.args.words.now in
    let both = rw c.in-Some.is at c.in_ok-found.ensures in
    c.selftest_of.ensures (selftest_of (λ name. value_in name words))
    (selftest_taken (app_of c.in_ok-command.command) words (rows_of (found_of c.in-Some.matches)) c.in_ok-command.ensures c.requires both.0 both.1)

pub returns-in-None : goal.returns-in-None
returns-in-None c =
    let refused = rw c.in-None.is at c.in_ok-found.ensures in
    selftest_refused (app_of c.in_ok-command.command) (map string_bytes c.args.words.now) c.in_ok-command.ensures c.requires refused
