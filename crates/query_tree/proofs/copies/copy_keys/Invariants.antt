use Rattle.std.proofs.Common.{◌≡◌, take}
use Rattle.query_tree.proofs.copies.copy_keys.Given as goal

abbrev pub invariant-keys : goal.invariant-keys
invariant-keys l = l.copies ≡ take l.key-index l.key-items
