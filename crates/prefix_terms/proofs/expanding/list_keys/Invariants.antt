use Rattle.std.proofs.Common.{◌≤◌, ◌*◌, ◌^◌, map, take}
use Rattle.std.specs.Borrow.{Bor}
use Rattle.doc_types.specs.Snapshots.{all_living}
use Rattle.query_tree.specs.declared.key.Key.{Key}
use Rattle.prefix_terms.specs.Prefixes.{AreExpanded, Lists}
use Rattle.prefix_terms.specs.steps.Keeping.{AreListed}
use Rattle.prefix_terms.proofs.expanding.list_keys.Given as goal

abbrev pub invariant-loop-key : goal.invariant-loop-key
invariant-loop-key g l = record {
  lists : Lists;
  are : AreExpanded (all_living l.layers) (map (λ (key : Bor Key). key.now) (take l.key-index l.keys)) lists;
  listed : AreListed lists l.listed.lists.items l.listed.count;
  few : l.listed.count ≤ l.key-index * 2 ^ 48;
}
