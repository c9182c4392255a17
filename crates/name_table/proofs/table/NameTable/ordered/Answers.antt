use Rattle.name_table.proofs.OrderLemmas.{in_order_from_test}
use Rattle.name_table.proofs.table.NameTable.ordered.Goals as goal

pub returns-clause-order : goal.returns-clause-order
returns-clause-order g c = in_order_from_test _ c.requires.sorted
