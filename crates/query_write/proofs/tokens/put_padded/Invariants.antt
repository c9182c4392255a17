use Rattle.std.proofs.Common.{◌-◌, length}
use Rattle.std.specs.Prelude.{replicate}
use Rattle.query_write.specs.steps.Writes.{IsPart}
use Rattle.query_write.proofs.tokens.put_padded.Given as goal

abbrev pub invariant-loop-place : goal.invariant-loop-place
invariant-loop-place l = IsPart l.initial.out.items l.out.items (replicate (l.places - length l.digits) 48) (replicate (l.places - l.place) 48)
