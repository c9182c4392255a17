use Rattle.index_tool.specs.ToolLines.{word_lines}
use Rattle.index_tool.proofs.Printed.{buffer_rest, buffer_stopped}
use Rattle.index_tool.proofs.chunks.print_words.Goals as goal

pub returns-in-Ok-clause-prints : goal.returns-in-Ok-clause-prints
returns-in-Ok-clause-prints g c =
    buffer_rest g.H.ToolHost {T = Unit {0}} {U = Unit {0}} tt c.print_rest.result (word_lines c.args.entry.now (g.C.Chunk.content c.args.chunk.now) (g.C.Chunk.words_of c.args.chunk.now)) (c.args.line.now.items, c.args.host.now) (c.buffer_words.new.line.items, c.buffer_words.new.host) c.print_rest.new.host
    c.requires c.in-Ok.ensures c.print_rest.ensures.prints

pub returns-in-Err-clause-prints : goal.returns-in-Err-clause-prints
returns-in-Err-clause-prints g c =
    buffer_stopped g.H.ToolHost (Unit {0}) (Unit {0}) c.in-Err.stop (word_lines c.args.entry.now (g.C.Chunk.content c.args.chunk.now) (g.C.Chunk.words_of c.args.chunk.now)) (c.args.line.now.items, c.args.host.now) (c.buffer_words.new.line.items, c.buffer_words.new.host)
    c.requires c.in-Err.ensures
