use Rattle.index_tool.specs.ToolLines.{word_line}
use Rattle.index_tool.proofs.Printed.{buffer_put}
use Rattle.index_tool.proofs.chunks.buffer_word.Goals as goal

pub returns-in-Ok : goal.returns-in-Ok
returns-in-Ok g c =
    buffer_put g.H.ToolHost c.print_full.result (word_line c.args.entry.now (g.C.Chunk.content c.args.chunk.now) c.args.word.now) c.args.line.now.items c.put_word.new.line.items c.args.host.now (c.print_full.new.line.items, c.print_full.new.host)
    c.in-Ok.ensures c.print_full.ensures
