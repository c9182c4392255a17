use Rattle.std.proofs.Common.{ℕ, List}
use Rattle.std.specs.Borrow.{Bor}
use Rattle.std.proofs.lemmas.List.Sorted.{IsPermutation-map}
use Rattle.image_join.proofs.lists.put_in_order.Goals as goal

pub returns-then-not-do_ascend : goal.returns-then-not-do_ascend
returns-then-not-do_ascend c = IsPermutation-map (λ (entry : ℕ × Bor (List ℕ)). (entry.0, entry.1.now)) c.args.found.now.items c.sort_unstable_by_key.new.self.items c.sort_unstable_by_key.ensures.permutation
