use Rattle.std.proofs.Common.{◌≡◌, ◌<◌, ◌≤◌, ℕ, List, Option, Some, length, take}
use Rattle.std.specs.List.{flat_map}
use Rattle.image_join.specs.steps.Merging.{IsLeast, StandAt, StandsAt, next_at}
use Rattle.image_join.specs.steps.Parts.{part_at}
use Rattle.image_join.specs.steps.Stacking.{ArePosted, at_front, stacked_in}
use Rattle.image_join.proofs.stacking.stack_lists.Given as goal

abbrev pub invariant-loop-number : goal.invariant-loop-number
invariant-loop-number g l = record {
  long : length l.nexts ≡ length l.initial.nexts;
  room : l.number < length l.parts → l.reached.least ≤ (part_at l.parts l.number).first;
  later : (k : ℕ) → l.number ≤ k → next_at l.nexts k ≡ next_at l.initial.nexts k;
  nexts : (last : Option (List ℕ)) → StandAt last l.parts l.initial.nexts → IsLeast last l.parts l.word → (k : ℕ) → k < l.number → StandsAt (Some l.word) (part_at l.parts k) (next_at l.nexts k);
  posted : (last : Option (List ℕ)) → StandAt last l.parts l.initial.nexts → IsLeast last l.parts l.word → ArePosted (flat_map (stacked_in l.word) (take l.number l.parts)) l.initial.out.items l.out.items at_front l.reached;
}
