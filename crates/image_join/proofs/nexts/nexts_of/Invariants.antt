use Rattle.std.proofs.Common.{◌≡◌, ◌<◌, ℕ, length, None}
use Rattle.image_join.specs.steps.Merging.{StandsAt, next_at}
use Rattle.image_join.specs.steps.Parts.{part_at}
use Rattle.image_join.proofs.nexts.nexts_of.Given as goal

abbrev pub invariant-loop-part : goal.invariant-loop-part
invariant-loop-part g l = record {
  long : length l.nexts.items ≡ l.part-index;
  each : (k : ℕ) → k < l.part-index → StandsAt None (part_at l.parts k) (next_at l.nexts.items k);
}
