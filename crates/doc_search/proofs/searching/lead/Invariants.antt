use Rattle.std.proofs.Common.{◌≡◌}
use Rattle.doc_search.proofs.searching.lead.Given as goal

abbrev pub invariant-loop : goal.invariant-loop
invariant-loop g l = l.stream ≡ record l.fn.stream { at = l.counter }
