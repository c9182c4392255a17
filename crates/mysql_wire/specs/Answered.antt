-- A response as the code holds it, without where its bytes lie.
use Rattle.std.specs.Prelude.{option_map}
use Rattle.mysql_wire.specs.Handshake.{Response}
use Rattle.mysql_wire.specs.declared.handshake.Response41.{Response41}

-- what the response says
abbrev pub response_by : Response41 → Response
response_by r = record { flags = r.flags; user = r.user.now; database = option_map (λ name. name.now) r.database }
