use Rattle.std.proofs.Common.{◌≡◌, false, take, map}
use Rattle.std.specs.Prelude.{fold}
use Rattle.std.specs.List.{flat_map}
use Rattle.ql_select.specs.Faults.{sort_faults}
use Rattle.ql_select.specs.FirstFaults.{sooner}
use Rattle.ql_select.specs.Names.{order_key}
use Rattle.ql_select.proofs.keys.order_of.Given as goal

abbrev pub invariant-keys : goal.invariant-keys
invariant-keys l =
    (l.order.items ≡ map (order_key l.schema l.aliases.1) (take l.key-index l.keys))
    × (l.faults.fault ≡ fold sooner l.fn.faults.fault (flat_map (sort_faults l.schema false l.aliases.1) (take l.key-index l.keys)))
