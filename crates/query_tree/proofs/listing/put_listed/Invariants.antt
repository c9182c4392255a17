use Rattle.std.proofs.Common.{◌≡◌, ◌++◌, map, take}
use Rattle.std.specs.Borrow.{Bor}
use Rattle.query_tree.specs.declared.key.Key.{Key}
use Rattle.query_tree.proofs.listing.put_listed.Given as goal

abbrev pub invariant-loop-key : goal.invariant-loop-key
invariant-loop-key l = map (λ (key : Bor Key). key.now) l.keys.items ≡ map (λ (key : Bor Key). key.now) l.initial.keys.items ++ take l.key-index l.listed
