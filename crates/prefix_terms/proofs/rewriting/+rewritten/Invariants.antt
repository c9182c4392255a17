use Rattle.std.proofs.Common.{take}
use Rattle.prefix_terms.specs.Prefixes.{AreRewritten}
use Rattle.prefix_terms.proofs.rewriting.+rewritten.Given as goal

abbrev pub invariant-rewritten_items-items : goal.invariant-rewritten_items-items
invariant-rewritten_items-items l = AreRewritten l.expansion.keys (take l.item-index l.item-items) l.made
