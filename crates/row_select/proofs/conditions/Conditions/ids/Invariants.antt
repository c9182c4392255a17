use Rattle.std.proofs.Common.{◌≡◌, false, take}
use Rattle.std.specs.List.{list_any}
use Rattle.row_select.specs.Filters.{lists_ids}
use Rattle.row_select.proofs.conditions.Conditions.ids.Given as goal

abbrev pub invariant-loop-condition : goal.invariant-loop-condition
invariant-loop-condition l = list_any lists_ids (take l.condition-index l.condition-items) ≡ false
