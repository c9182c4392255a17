-- The command of each mode.
use Rattle.std.specs.Prelude.{[], ◌∷◌, codes, List}
use Rattle.clap.specs.Words.{App, Rule}
use Rattle.command_line.specs.steps.Options.{command, defaulted, needed, text}

abbrev pub config_rules : List Rule
config_rules = text (codes "config") ∷ []

abbrev pub serve_rules : List Rule
serve_rules =
    text (codes "config") ∷ text (codes "listen") ∷ defaulted (codes "workers") (codes "4") 1 64 ∷ defaulted (codes "sessions") (codes "1000000") 1 1000000 ∷ []

abbrev pub selftest_rules : List Rule
selftest_rules = needed (codes "number") 0 2147483647 ∷ needed (codes "docs") 1 100000 ∷ []

abbrev pub serve_command : App
serve_command = command (codes "serve") serve_rules

abbrev pub selftest_command : App
selftest_command = command (codes "selftest") selftest_rules
