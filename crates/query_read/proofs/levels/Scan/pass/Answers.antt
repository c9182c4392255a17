use Rattle.std.proofs.Common.{sym, ap, ◌∙◌}
use Rattle.query_read.specs.steps.Levels.{innermost, outer}
use Rattle.query_read.proofs.ScanSteps.{closed_is, closed_inner}
use Rattle.query_read.proofs.levels.Scan.pass.Goals.{in-Some, in-None}
use Rattle.query_read.proofs.levels.Scan.pass.Goals as goal

pub returns-after-pop : goal.returns-after-pop
returns-after-pop c = elim c.match-pop.branch [
  | in-Some w ↦ closed_inner c.args.self.now c.args.mark.now w.in-Some.outer c.match-pop.self c.pop.new.self c.goes_on-self.result c.in-Close.is c.goes_on-self.ensures w.self-is w.in-Some.ensures
  | in-None w ↦ closed_is c.args.self.now c.args.mark.now c.match-pop.self c.pop.new.self c.goes_on-self.result c.in-Close.is c.goes_on-self.ensures (w.self-is ∙ w.new-self-in-None.ensures ∙ sym (ap innermost w.in-None.ensures.0)) (w.in-None.ensures.1 ∙ sym (ap outer w.in-None.ensures.0))
]
