use Rattle.std.proofs.Common.{◌≡◌, None, take}
use Rattle.std.specs.Prelude.{fold}
use Rattle.rankers.specs.steps.FieldValue.{with_hit}
use Rattle.rankers.proofs.field_factors.first_position.Given as goal

abbrev pub invariant-loop-hit : goal.invariant-loop-hit
invariant-loop-hit l = l.least ≡ fold (with_hit l.field) None (take l.hit-index l.hits)
