use Rattle.std.proofs.Common.{◌≡◌, ◌<◌, ◌≤◌, ◌++◌, ℕ, List, Option, Some, length, take}
use Rattle.std.specs.List.{flat_map}
use Rattle.image_join.specs.steps.Entries.{entries_in, lent}
use Rattle.image_join.specs.steps.Merging.{IsLeast, StandAt, StandsAt, next_at}
use Rattle.image_join.specs.steps.Parts.{part_at}
use Rattle.image_join.proofs.words.take_word.Given as goal

abbrev pub invariant-loop-number : goal.invariant-loop-number
invariant-loop-number g l = record {
  long : length l.nexts ≡ length l.initial.nexts;
  later : (k : ℕ) → l.number ≤ k → next_at l.nexts k ≡ next_at l.initial.nexts k;
  nexts : (last : Option (List ℕ)) → StandAt last l.parts l.initial.nexts → IsLeast last l.parts l.word → (k : ℕ) → k < l.number → StandsAt (Some l.word) (part_at l.parts k) (next_at l.nexts k);
  found : (last : Option (List ℕ)) → StandAt last l.parts l.initial.nexts → IsLeast last l.parts l.word → lent l.found.items ≡ lent l.initial.found.items ++ flat_map (entries_in l.word l.numbers) (take l.number l.parts);
}
