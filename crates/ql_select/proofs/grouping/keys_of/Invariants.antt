use Rattle.std.proofs.Common.{◌≡◌, take, map}
use Rattle.ql_select.specs.Groups.{key_column}
use Rattle.ql_select.proofs.grouping.keys_of.Given as goal

abbrev pub invariant-order : goal.invariant-order
invariant-order l = l.keys.items ≡ map (λ one. (key_column l.sources one.0, one.1)) (take l.key-index l.order)
