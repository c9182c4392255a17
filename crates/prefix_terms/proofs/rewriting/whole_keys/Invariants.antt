use Rattle.std.proofs.Common.{◌≡◌, map, take}
use Rattle.prefix_terms.specs.Prefixes.{whole}
use Rattle.prefix_terms.proofs.rewriting.whole_keys.Given as goal

abbrev pub invariant-keys : goal.invariant-keys
invariant-keys l = l.made ≡ map whole (take l.key-index l.key-items)
