-- The file that the words after the program's name speak of.
use Rattle.std.specs.Prelude.{ℕ, List, Option, Some, None}
use Rattle.command_line.specs.Modes.{Mode, session, serve, check, selftest}

-- the file of a mode's configuration
abbrev pub file_of : Option Mode → Option (List ℕ)
file_of (Some (session config)) = Some config
file_of (Some (serve config listen workers sessions)) = Some config
file_of (Some (check config)) = Some config
file_of (Some (selftest number docs)) = None
file_of None = None
