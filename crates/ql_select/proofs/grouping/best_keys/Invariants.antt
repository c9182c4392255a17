use Rattle.std.proofs.Common.{◌≡◌, take, map}
use Rattle.ql_select.specs.Groups.{best_column}
use Rattle.ql_select.proofs.grouping.best_keys.Given as goal

abbrev pub invariant-shown : goal.invariant-shown
invariant-shown l = l.keys.items ≡ map (λ key. (best_column key.0, key.1)) (take l.column-index l.shown)
