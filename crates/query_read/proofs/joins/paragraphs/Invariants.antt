use Rattle.std.proofs.Common.{length}
use Rattle.query_marks.specs.declared.mark.Sign.TheVariants as signs
use Rattle.query_grammar.specs.declared.class.Class.TheVariants as classes
use Rattle.query_tree.specs.declared.query.Node.TheVariants as nodes
use Rattle.query_read.proofs.JoinSteps.{LeavesRead}
use Rattle.query_read.proofs.joins.paragraphs.Given as goal

abbrev pub invariant-leaves : goal.invariant-leaves
invariant-leaves l = LeavesRead classes.Paragraph signs.Paragraph nodes.Paragraph l.fn.first l.fn.input l.node l.input

abbrev pub decreases-leaves : goal.decreases-leaves
decreases-leaves l = length l.input
