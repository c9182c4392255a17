use Rattle.std.proofs.Common.{◌≡◌, true, take, map}
use Rattle.std.specs.Prelude.{fold}
use Rattle.std.specs.List.{flat_map}
use Rattle.ql_select.specs.Faults.{sort_faults}
use Rattle.ql_select.specs.FirstFaults.{sooner}
use Rattle.ql_select.specs.Names.{within_key}
use Rattle.ql_select.proofs.keys.within_of.Given as goal

abbrev pub invariant-keys : goal.invariant-keys
invariant-keys l =
    (l.within.items ≡ map (within_key l.schema l.aliases.1) (take l.key-index l.keys))
    × (l.faults.fault ≡ fold sooner l.fn.faults.fault (flat_map (sort_faults l.schema true l.aliases.1) (take l.key-index l.keys)))
