use Rattle.std.proofs.Common.{arith}
use Rattle.index_tool.proofs.EachLine.{each_all, each_more, each_stop}
use Rattle.index_tool.specs.ToolLines.{hit_line}
use Rattle.index_tool.proofs.hits.buffer_row.Goals as goal

pub returns-in-Err : goal.returns-in-Err
returns-in-Err g c = λ row same.
    each_stop (hit_line c.args.wanted.schema.now c.args.wanted.entry.now row) c.args.hits.now g.H.ToolHost (tt {0}) c.in-Err.stop c.hits.hit-index _ (c.args.line.now.items, c.args.host.now) (c.hits.line.items, c.hits.host) (c.buffer_hit.new.line.items, c.buffer_hit.new.host) c.hits-test.true (c.hits.invariant row same)
    (c.in-Err.ensures row same)

pub hits-preserved : goal.hits-preserved
hits-preserved g c = λ row same.
    each_more (hit_line c.args.wanted.schema.now c.args.wanted.entry.now row) c.args.hits.now g.H.ToolHost (tt {0}) c.hits.hit-index _ (c.args.line.now.items, c.args.host.now) (c.hits.line.items, c.hits.host) (c.buffer_hit.new.line.items, c.buffer_hit.new.host) c.hits-test.true (c.hits.invariant row same)
    (c.in-Ok.ensures row same)

pub returns : goal.returns
returns g c = λ row same.
    each_all (hit_line c.args.wanted.schema.now c.args.wanted.entry.now row) c.args.hits.now g.H.ToolHost (tt {0}) c.hits.hit-index (c.args.line.now.items, c.args.host.now) (c.hits.line.items, c.hits.host) (omega (arith, c.hits-test.false)) (c.hits.invariant row same)
