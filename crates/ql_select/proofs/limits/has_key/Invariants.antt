use Rattle.std.proofs.Common.{◌≡◌, drop}
use Rattle.std.specs.List.{list_any}
use Rattle.ql_select.specs.Faults.{lists_key}
use Rattle.ql_select.proofs.limits.has_key.Given as goal

abbrev pub invariant-items : goal.invariant-items
invariant-items l = list_any lists_key l.items ≡ list_any lists_key (drop l.item-index l.items)
