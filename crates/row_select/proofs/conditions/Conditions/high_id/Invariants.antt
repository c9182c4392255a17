use Rattle.std.proofs.Common.{◌≡◌, false, take}
use Rattle.std.specs.List.{list_any}
use Rattle.row_select.specs.Filters.{bounds_above}
use Rattle.row_select.proofs.conditions.Conditions.high_id.Given as goal

abbrev pub invariant-loop-condition : goal.invariant-loop-condition
invariant-loop-condition l = list_any bounds_above (take l.condition-index l.condition-items) ≡ false
