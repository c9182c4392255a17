use Rattle.std.proofs.Common.{◌≡◌, [], take, drop}
use Rattle.ql_select.specs.Faults.{weight_names_fault}
use Rattle.ql_select.proofs.faults.weight_names_fault.Given as goal

abbrev pub invariant-list : goal.invariant-list
invariant-list l = weight_names_fault l.schema [] l.list ≡ weight_names_fault l.schema (take l.place l.list) (drop l.place l.list)
