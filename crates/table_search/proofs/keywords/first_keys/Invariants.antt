use Rattle.std.proofs.Common.{◌≡◌, take}
use Rattle.table_search.specs.Keywords.{first_keys}
use Rattle.table_search.specs.steps.Counting.{lent}
use Rattle.table_search.proofs.keywords.first_keys.Given as goal

abbrev pub invariant-loop-key : goal.invariant-loop-key
invariant-loop-key l = lent l.keys.items ≡ first_keys (lent (take l.key-index l.all))
