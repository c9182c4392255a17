use Rattle.occ_lists.proofs.Spreading.{Spreading}
use Rattle.occ_lists.proofs.cover.spread.Given as goal

abbrev pub invariant-loop-at : goal.invariant-loop-at
invariant-loop-at l = Spreading l.initial.list.items l.list.items l.at
