use Rattle.std.proofs.Common.{ℕ, List, ◌≤◌, length, drop}
use Rattle.image_parts.specs.steps.Reading.{AreNumbersAt}
use Rattle.image_parts.proofs.numbers.behind_numbers.Given as goal

abbrev pub invariant-numbers : goal.invariant-numbers
invariant-numbers l = (numbers : List ℕ) → AreNumbersAt l.bytes l.at numbers → l.count ≤ length numbers → AreNumbersAt l.bytes l.place (drop l.counter numbers)
