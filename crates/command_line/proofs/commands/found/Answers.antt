use Rattle.std.proofs.lemmas.Bool.{and_parts}
use Rattle.clap.specs.Words.{app_of, built, is_simple}
use Rattle.clap.specs.Faults.{is_free_app}
use Rattle.command_line.proofs.commands.found.Goals as goal

pub returns-in-Ok : goal.returns-in-Ok
returns-in-Ok c =
    let app = app_of c.args.command in
    let simple = (and_parts (is_simple app) (is_free_app (built app)) c.requires).0 in
    (c.in-Ok.ensures.kinds c.requires, (c.in-Ok.ensures.matches simple).0)
