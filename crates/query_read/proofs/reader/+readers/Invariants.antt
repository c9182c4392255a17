use Rattle.std.proofs.Common.{◌+◌, ◌*◌, length}
use Rattle.query_read.proofs.ItemSteps.{ChoicesRead, ItemsRead}
use Rattle.query_read.proofs.OrderSteps.{SectionsRead, OrdersRead}
use Rattle.query_read.proofs.reader.+readers.Given as goal

-- Of two readers at one depth the one that calls the other has the greater measure.
abbrev pub decreases-group : goal.decreases-group
decreases-group l = 8 * l.depth

abbrev pub decreases-join : goal.decreases-join
decreases-join l = 8 * l.depth + 1

abbrev pub decreases-alternatives : goal.decreases-alternatives
decreases-alternatives l = 8 * l.depth + 2

abbrev pub decreases-item : goal.decreases-item
decreases-item l = 8 * l.depth + 3

abbrev pub decreases-items : goal.decreases-items
decreases-items l = 8 * l.depth + 4

abbrev pub decreases-section : goal.decreases-section
decreases-section l = 8 * l.depth + 5

abbrev pub decreases-and : goal.decreases-and
decreases-and l = 8 * l.depth + 6

abbrev pub decreases-expr : goal.decreases-expr
decreases-expr l = 8 * l.depth + 7

abbrev pub invariant-alternatives-choices : goal.invariant-alternatives-choices
invariant-alternatives-choices l = ChoicesRead l.depth l.fn.input l.node l.input

abbrev pub decreases-alternatives-choices : goal.decreases-alternatives-choices
decreases-alternatives-choices l = length l.input

abbrev pub invariant-items-items : goal.invariant-items-items
invariant-items-items l = ItemsRead l.depth l.fn.input l.items l.input

abbrev pub decreases-items-items : goal.decreases-items-items
decreases-items-items l = length l.input

abbrev pub invariant-and-sections : goal.invariant-and-sections
invariant-and-sections l = SectionsRead l.depth l.fn.input l.all l.input

abbrev pub decreases-and-sections : goal.decreases-and-sections
decreases-and-sections l = length l.input

abbrev pub invariant-expr-orders : goal.invariant-expr-orders
invariant-expr-orders l = OrdersRead l.depth l.fn.input l.node l.input

abbrev pub decreases-expr-orders : goal.decreases-expr-orders
decreases-expr-orders l = length l.input
