use Rattle.std.proofs.Common.{◌≡◌, take, map}
use Rattle.std.specs.Prelude.{fold}
use Rattle.std.specs.List.{flat_map}
use Rattle.ql_select.specs.Faults.{item_faults}
use Rattle.ql_select.specs.FirstFaults.{sooner}
use Rattle.ql_select.specs.Names.{item_source}
use Rattle.ql_select.proofs.naming.sources_of.Given as goal

abbrev pub invariant-items : goal.invariant-items
invariant-items l =
    (l.sources.items ≡ map (item_source l.schema) (take l.item-index l.items))
    × (l.faults.fault ≡ fold sooner l.fn.faults.fault (flat_map (item_faults l.schema) (take l.item-index l.items)))
