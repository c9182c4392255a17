use Rattle.std.proofs.Common.{◌+◌, ◌*◌, length}
use Rattle.rank_expr.specs.Grammar.{IsOperand}
use Rattle.rank_expr.specs.steps.ExprGrammar.{operand}
use Rattle.rank_expr.proofs.ReaderSteps.{ProductRead, TotalRead}
use Rattle.rank_expr.proofs.reader.+readers.Given as goal

-- Of two readers at one depth the one that calls the other has the greater measure.
abbrev pub decreases-operand : goal.decreases-operand
decreases-operand l = 8 * l.depth

abbrev pub decreases-product : goal.decreases-product
decreases-product l = 8 * l.depth + 1

abbrev pub decreases-total : goal.decreases-total
decreases-total l = 8 * l.depth + 2

abbrev pub decreases-expr : goal.decreases-expr
decreases-expr l = 8 * l.depth + 3

abbrev pub decreases-negative : goal.decreases-negative
decreases-negative l = 8 * l.depth + 4

abbrev pub decreases-group : goal.decreases-group
decreases-group l = 8 * l.depth + 4

abbrev pub decreases-single : goal.decreases-single
decreases-single l = 8 * l.depth + 4

abbrev pub decreases-double : goal.decreases-double
decreases-double l = 8 * l.depth + 4

abbrev pub decreases-triple : goal.decreases-triple
decreases-triple l = 8 * l.depth + 4

abbrev pub decreases-nested : goal.decreases-nested
decreases-nested l = 8 * l.depth + 5

abbrev pub invariant-product-factors : goal.invariant-product-factors
invariant-product-factors l = ProductRead (operand l.depth) (IsOperand l.depth) l.fn.input l.product l.input

abbrev pub decreases-product-factors : goal.decreases-product-factors
decreases-product-factors l = length l.input

abbrev pub invariant-total-terms : goal.invariant-total-terms
invariant-total-terms l = TotalRead (operand l.depth) (IsOperand l.depth) l.fn.input l.total l.input

abbrev pub decreases-total-terms : goal.decreases-total-terms
decreases-total-terms l = length l.input
