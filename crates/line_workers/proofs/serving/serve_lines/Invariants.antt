use Rattle.line_workers.specs.steps.Turns.{HasServed}
use Rattle.line_workers.proofs.serving.serve_lines.Given as goal

abbrev pub invariant-loop-line : goal.invariant-loop-line
invariant-loop-line g l = HasServed g.E.Door g.E.Line.Link g.T.Catalog.confs g.T.TableStore.words l.workers l.worker l.line l.initial.door l.door l.initial.tables l.tables
