use Rattle.std.proofs.Common.{◌≡◌, take}
use Rattle.op_eval.specs.steps.Worded.{how_many}
use Rattle.op_eval.proofs.quoting.standing.Given as goal

abbrev pub invariant-loop-term : goal.invariant-loop-term
invariant-loop-term l = l.count ≡ how_many l.spans (take l.term-index l.terms)
