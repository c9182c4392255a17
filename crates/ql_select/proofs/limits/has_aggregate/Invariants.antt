use Rattle.std.proofs.Common.{◌≡◌, drop}
use Rattle.std.specs.List.{list_any}
use Rattle.ql_select.specs.Faults.{lists_aggregate}
use Rattle.ql_select.proofs.limits.has_aggregate.Given as goal

abbrev pub invariant-items : goal.invariant-items
invariant-items l = list_any lists_aggregate l.items ≡ list_any lists_aggregate (drop l.item-index l.items)
