use Rattle.std.proofs.Common.{◌≡◌, ◌≤◌, ◌+◌, length}
use Rattle.query_marks.specs.QueryWords.{runs_in}
use Rattle.query_marks.proofs.words.count_words.Given as goal

abbrev pub invariant-runs : goal.invariant-runs
invariant-runs l = record {
  is : l.count + length (runs_in l.rest) ≡ length (runs_in l.letters);
  within : l.count + length l.rest ≤ length l.letters;
}

abbrev pub decreases-runs : goal.decreases-runs
decreases-runs l = length l.rest
