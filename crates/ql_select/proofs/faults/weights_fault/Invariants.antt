use Rattle.std.proofs.Common.{◌≡◌, drop}
use Rattle.ql_refusals.specs.Refusals.{first_of}
use Rattle.ql_select.specs.Faults.{weight_fault}
use Rattle.ql_select.proofs.faults.weights_fault.Given as goal

abbrev pub invariant-list : goal.invariant-list
invariant-list l = first_of (weight_fault l.schema) l.list ≡ first_of (weight_fault l.schema) (drop l.given-index l.list)
