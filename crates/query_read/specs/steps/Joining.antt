-- What operators make of two nodes.
use Rattle.std.specs.Prelude.{◌≡◌, ◌⊎◌, ℕ, Result, Ok, Err}
use Rattle.srch_base.specs.declared.faults.Or.{Or}
use Rattle.srch_base.specs.declared.faults.Or.TheVariants.{NoMemory}
use Rattle.query_read.specs.declared.operators.Operator.{Operator}
use Rattle.query_read.specs.declared.operators.Operator.TheVariants as operators
use Rattle.query_tree.specs.declared.query.Node.{Node}
use Rattle.query_tree.specs.declared.query.Node.TheVariants as nodes

abbrev pub by_operator : Operator → Node → Node → Node
by_operator operators.Or first next = nodes.Or first next
by_operator operators.Maybe first next = nodes.Maybe first next
by_operator operators.Before first next = nodes.Before first next
by_operator (operators.Near number) first next = nodes.Near number first next
by_operator operators.Sentence first next = nodes.Sentence first next
by_operator operators.Paragraph first next = nodes.Paragraph first next

-- what the operator makes of the first node and of what was read next
abbrev pub Joins : Operator → Node → Result Node (Or ℕ) → Result Node (Or ℕ) → Type 0
Joins operator first next (Ok node) = (x : Node) × (next ≡ Ok x) × (node ≡ by_operator operator first x)
Joins operator first next (Err error) = (error ≡ NoMemory) ⊎ (next ≡ Err error)
