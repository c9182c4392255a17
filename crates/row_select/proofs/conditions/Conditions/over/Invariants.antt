use Rattle.std.proofs.Common.{◌≡◌, take}
use Rattle.row_select.proofs.conditions.Conditions.over.Given as goal

abbrev pub invariant-loop-filter : goal.invariant-loop-filter
invariant-loop-filter l = l.list.items ≡ take l.filter-index l.filters
