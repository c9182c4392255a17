use Rattle.index_tool.specs.ToolLines.{hit_line}
use Rattle.index_tool.proofs.Printed.{buffer_put}
use Rattle.index_tool.proofs.hits.buffer_hit.Goals as goal

pub returns-in-Ok : goal.returns-in-Ok
returns-in-Ok g c = λ row same.
    buffer_put g.H.ToolHost c.print_full.result (hit_line c.args.wanted.schema.now c.args.wanted.entry.now row c.args.hit) c.args.line.now.items c.put_hit.new.line.items c.args.host.now (c.print_full.new.line.items, c.print_full.new.host)
    (c.in-Ok.ensures row same) c.print_full.ensures
