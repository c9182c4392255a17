use Rattle.std.proofs.Common.{◌≡◌, drop}
use Rattle.ql_select.specs.Faults.{is_weighed}
use Rattle.ql_select.proofs.faults.is_weighed.Given as goal

abbrev pub invariant-list : goal.invariant-list
invariant-list l = is_weighed l.list l.name ≡ is_weighed (drop l.given-index l.list) l.name
