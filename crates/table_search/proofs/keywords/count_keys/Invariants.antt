use Rattle.std.proofs.Common.{◌≡◌, map, take}
use Rattle.doc_types.specs.Snapshots.{all_living}
use Rattle.table_search.specs.Keywords.{counted}
use Rattle.table_search.specs.steps.Counting.{lent}
use Rattle.table_search.proofs.keywords.count_keys.Given as goal

abbrev pub invariant-keys : goal.invariant-keys
invariant-keys g l = l.counts.items ≡ map (counted (all_living l.snapshot.layers)) (lent (take l.key-index l.keys))
