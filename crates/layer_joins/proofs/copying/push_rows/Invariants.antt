use Rattle.std.proofs.Common.{◌≡◌, ◌++◌, take}
use Rattle.layer_joins.proofs.Livings.{living_of}
use Rattle.layer_joins.proofs.copying.push_rows.Given as goal

abbrev pub invariant-loop-number : goal.invariant-loop-number
invariant-loop-number l = l.rows.items ≡ l.initial.rows.items ++ living_of l.layer.dead (take l.number l.layer.rows)
