use Rattle.std.proofs.Common.{ℕ, ◌-◌, ◌≤◌, length}
use Rattle.doc_tokens.specs.steps.TokenReader.{HasPassed}
use Rattle.doc_tokens.proofs.PassSteps.{Passing}
use Rattle.doc_tokens.proofs.walk.pass_marks.Given as goal

abbrev pub invariant-marks : goal.invariant-marks
invariant-marks l = record {
  within : l.passed.next ≤ length l.marks;
  passing : (from : ℕ) → from ≤ l.end → HasPassed l.marks l.fn.start from → Passing l.marks l.fn.reader l.reader l.passed from l.end;
}

abbrev pub decreases-marks : goal.decreases-marks
decreases-marks l = length l.marks - l.passed.next
