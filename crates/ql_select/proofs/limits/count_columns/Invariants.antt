use Rattle.std.proofs.Common.{◌≡◌, ◌-◌, ◌^◌, min, take}
use Rattle.std.specs.List.{sum_by}
use Rattle.ql_select.specs.Faults.{width}
use Rattle.ql_select.proofs.limits.count_columns.Given as goal

abbrev pub invariant-items : goal.invariant-items
invariant-items l = l.count ≡ min (sum_by (width l.schema) (take l.item-index l.items)) (2 ^ 64 - 1)
