use Rattle.std.proofs.Common.{◌≡◌, ◌++◌, take}
use Rattle.std.specs.List.{filter, flat_map}
use Rattle.occ_lists.specs.steps.Ends.{ends_at, last_of, to_each}
use Rattle.occ_lists.proofs.windows.Proximity.put_both.Given as goal

abbrev pub invariant-loop-from : goal.invariant-loop-from
invariant-loop-from l = record {
  made : l.out.items ≡ l.fn.out.items ++ flat_map (λ from. to_each from (filter (ends_at l.self from) l.self.all.items)) (take l.from-index l.self.all.items);
  widest : l.longest.items ≡ l.fn.longest.items ++ flat_map (λ from. to_each from (last_of (filter (ends_at l.self from) l.self.all.items))) (take l.from-index l.self.all.items);
}
