use Rattle.std.proofs.Common.{[], Ok, refl}
use Rattle.index_tool.specs.ToolLines.{hit_lines}
use Rattle.index_tool.proofs.HitRows.{no_lines}
use Rattle.index_tool.proofs.Printed.{buffer_rest, buffer_stopped, lines_none}
use Rattle.index_tool.proofs.hits.print_hits.Goals as goal

pub returns-in-None-clause-prints : goal.returns-in-None-clause-prints
returns-in-None-clause-prints g c =
    let w = c.args.wanted in
    buffer_rest g.H.ToolHost {T = Unit {0}} {U = Unit {0}} tt (Ok tt) (hit_lines w.schema.now w.word.now w.entry.now (g.C.Chunk.content c.args.chunk.now)) ([], c.args.host.now) ([], c.args.host.now) c.args.host.now refl
    (no_lines w.schema.now w.word.now w.entry.now (g.C.Chunk.content c.args.chunk.now) g.H.ToolHost (tt {0}) ([], c.args.host.now) c.in-None.ensures.none)
    (lines_none g.H.ToolHost (tt {0}) c.args.host.now)

pub returns-in-Ok-clause-prints : goal.returns-in-Ok-clause-prints
returns-in-Ok-clause-prints g c =
    let w = c.args.wanted in
    buffer_rest g.H.ToolHost {T = Unit {0}} {U = Unit {0}} tt c.print_rest.result (hit_lines w.schema.now w.word.now w.entry.now (g.C.Chunk.content c.args.chunk.now)) (c.args.line.now.items, c.args.host.now) (c.buffer_from.new.line.items, c.buffer_from.new.host) c.print_rest.new.host
    c.requires.begins c.in-Ok.ensures c.print_rest.ensures.prints

pub returns-in-Err-clause-prints : goal.returns-in-Err-clause-prints
returns-in-Err-clause-prints g c =
    let w = c.args.wanted in
    buffer_stopped g.H.ToolHost (Unit {0}) (Unit {0}) c.in-Err.stop (hit_lines w.schema.now w.word.now w.entry.now (g.C.Chunk.content c.args.chunk.now)) (c.args.line.now.items, c.args.host.now) (c.buffer_from.new.line.items, c.buffer_from.new.host)
    c.requires.begins c.in-Err.ensures
