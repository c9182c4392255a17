use Rattle.std.proofs.Common.{◌∙◌, map, string_bytes}
use Rattle.clap.specs.Words.{app_of, found_of, rows_of}
use Rattle.command_line.proofs.ConfigRead.{config_refused, config_taken}
use Rattle.command_line.proofs.reading.read_config.Goals as goal

pub returns-in-Some : goal.returns-in-Some
returns-in-Some c =
    let both = rw c.in-Some.is at c.in_ok-found.ensures in
    c.text_of.ensures ∙ config_taken (app_of c.in_ok-command.command) c.args.name.now (map string_bytes c.args.words.now) (rows_of (found_of c.in-Some.matches)) c.in_ok-command.ensures c.requires both.0 both.1

pub returns-in-None : goal.returns-in-None
returns-in-None c =
    let refused = rw c.in-None.is at c.in_ok-found.ensures in
    config_refused (app_of c.in_ok-command.command) c.args.name.now (map string_bytes c.args.words.now) c.in_ok-command.ensures c.requires refused
