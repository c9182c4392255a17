use Rattle.std.proofs.Common.{ℕ, ◌<◌, List, AllPairs, rules, subst}
use Rattle.std.specs.Arc.{arc_value}
use Rattle.image_join.proofs.parts.part_of.Goals as goal

pub invariant_of-result : goal.invariant_of-result
invariant_of-result g c = record {
  words = g.met.C.Chunk.all_words (arc_value c.in_ok-try_clone.field-0);
  dead = subst (λ (dead : List ℕ). AllPairs (λ row later. row < later) dead) (search rules) c.layer.invariant.ascend;
}
