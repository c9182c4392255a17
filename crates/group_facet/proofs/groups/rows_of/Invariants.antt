use Rattle.group_facet.proofs.Finished.{IsShowing}
use Rattle.group_facet.proofs.groups.rows_of.Given as goal

abbrev pub invariant-loop-key : goal.invariant-loop-key
invariant-loop-key l = IsShowing l.fn.parts.entries l.key-iterator l.groups.items
