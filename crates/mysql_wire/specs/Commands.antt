-- "Command Phase": what a command packet's payload asks for.
use Rattle.std.specs.Prelude.{ℕ, List, [], ◌∷◌, Option, Some, None, ◌==◌, ◌&&◌, length, if◌then◌else◌}
use Rattle.srch_base.specs.Numbers.{number_of}

-- a command
pub data ClientCommand : Type 0 where
  Quit : ClientCommand
  InitDb : (name : List ℕ) → ClientCommand
  Query : (text : List ℕ) → ClientCommand
  Ping : ClientCommand
  SetOption : (option : ℕ) → ClientCommand
  Unknown : (code : Option ℕ) → ClientCommand

-- the command of a first byte and of what follows it: only COM_SET_OPTION has a stated length
abbrev pub command_by : ℕ → List ℕ → ClientCommand
command_by code rest =
    if code == 0x01 then Quit
    else (if code == 0x02 then InitDb rest
    else (if code == 0x03 then Query rest
    else (if code == 0x0e then Ping
    else (if (code == 0x1b) && (length rest == 2) then SetOption (number_of rest)
    else Unknown (Some code)))))

-- the command of a payload
abbrev pub command_of : List ℕ → ClientCommand
command_of [] = Unknown None
command_of (code ∷ rest) = command_by code rest
