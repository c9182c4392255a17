use Rattle.line_workers.proofs.Turns.{served_more, served_none}
use Rattle.line_workers.proofs.serving.serve_lines.Goals as goal

pub loop-line-init : goal.loop-line-init
loop-line-init g c = served_none g.E.Door g.E.Line.Link g.T.Catalog.confs g.T.TableStore.words c.args.workers c.args.worker c.args.door.now c.args.tables.now c.requires.within

pub loop-line-preserved : goal.loop-line-preserved
loop-line-preserved g c =
    served_more g.E.Door g.E.Line.Link g.T.Catalog.confs g.T.TableStore.words c.args.workers c.args.worker c.loop-line.line c.args.door.now c.loop-line.door c.serve_next.new.door c.args.tables.now c.loop-line.tables c.serve_next.new.tables
    c.loop-line.invariant c.in-Served.ensures
