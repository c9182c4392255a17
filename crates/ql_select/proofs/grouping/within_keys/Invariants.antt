use Rattle.std.proofs.Common.{◌≡◌, take}
use Rattle.ql_select.proofs.grouping.within_keys.Given as goal

abbrev pub invariant-within : goal.invariant-within
invariant-within l = l.keys.items ≡ take l.key-index l.within
