use Rattle.std.proofs.Common.{◌≡◌, take}
use Rattle.std.specs.Prelude.{fold}
use Rattle.std.specs.List.{flat_map}
use Rattle.ql_select.specs.Faults.{cond_faults}
use Rattle.ql_select.specs.FirstFaults.{sooner}
use Rattle.ql_select.specs.Parts.{cond_filters}
use Rattle.ql_select.proofs.conditions.filters_of.Given as goal

abbrev pub invariant-conds : goal.invariant-conds
invariant-conds l =
    (l.filters.items ≡ flat_map (cond_filters l.schema) (take l.cond-index l.conds))
    × (l.faults.fault ≡ fold sooner l.fn.faults.fault (flat_map (cond_faults l.schema) (take l.cond-index l.conds)))
