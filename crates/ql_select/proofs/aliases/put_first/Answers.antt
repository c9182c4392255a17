use Rattle.std.proofs.Common.{rules}
use Rattle.ql_select.proofs.Aliased.{put_more}
use Rattle.ql_select.proofs.aliases.put_first.Goals as goal

pub returns-in_ok-insert : goal.returns-in_ok-insert
returns-in_ok-insert c =
    put_more c.args.places.now c.insert.new.self c.args.alias c.args.place (search rules) c.in_ok-insert.ensures.updates.0
