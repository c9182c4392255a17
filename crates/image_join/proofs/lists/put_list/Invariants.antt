use Rattle.std.proofs.Common.{◌≡◌, ◌≤◌, ◌++◌, drop}
use Rattle.image_join.specs.steps.Entries.{Rising, lent, spelled_list}
use Rattle.image_join.proofs.lists.put_list.Given as goal

abbrev pub invariant-loop-entry : goal.invariant-loop-entry
invariant-loop-entry l = record {
  small : l.least ≤ 4294967295;
  list : l.out.items ++ spelled_list l.least (lent (drop l.entry-index l.found)) ≡ l.initial.out.items ++ spelled_list 0 (lent l.found);
  rising : Rising l.least (lent (drop l.entry-index l.found)) → Rising 0 (lent l.found);
}
