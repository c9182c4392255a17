use Rattle.std.proofs.Common.{◌≡◌, drop}
use Rattle.prefix_terms.specs.Prefixes.{list_of}
use Rattle.prefix_terms.proofs.rewriting.list_of.Given as goal

abbrev pub invariant-loop-list : goal.invariant-loop-list
invariant-loop-list l = list_of l.query (drop l.list-index l.list-items) ≡ list_of l.query l.list-items
