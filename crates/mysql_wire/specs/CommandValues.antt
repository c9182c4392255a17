-- A command as the code holds it, without where its bytes lie.
use Rattle.mysql_wire.specs.Commands.{ClientCommand, Quit as asks_quit, InitDb as asks_init_db, Query as asks_query, Ping as asks_ping, SetOption as asks_set_option, Unknown as asks_unknown}
use Rattle.mysql_wire.specs.declared.commands.Command.{Command}
use Rattle.mysql_wire.specs.declared.commands.Command.TheVariants.{Quit, InitDb, Query, Ping, SetOption, Unknown}

-- the command without its place in memory
abbrev pub command_value : Command → ClientCommand
command_value Quit = asks_quit
command_value (InitDb name) = asks_init_db name.now
command_value (Query text) = asks_query text.now
command_value Ping = asks_ping
command_value (SetOption option) = asks_set_option option
command_value (Unknown code) = asks_unknown code
