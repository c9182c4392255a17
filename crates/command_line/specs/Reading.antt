-- What a mode says that was read.
use Rattle.command_line.specs.Modes as words
use Rattle.command_line.specs.declared.mode.Mode.{Mode}
use Rattle.command_line.specs.declared.mode.Mode.TheVariants.{Session, Serve, Check, Selftest}

-- the mode that a value says
abbrev pub said : Mode → words.Mode
said (Session config) = words.session config.now
said (Serve config listen workers sessions) = words.serve config.now listen.now workers sessions
said (Check config) = words.check config.now
said (Selftest number docs) = words.selftest number docs
