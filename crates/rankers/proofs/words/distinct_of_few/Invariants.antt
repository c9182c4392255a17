use Rattle.std.proofs.Common.{◌≡◌, nat_eq, take, ◌≤◌}
use Rattle.std.specs.Set.{distinct_count}
use Rattle.rankers.proofs.WordTable.{words_in}
use Rattle.rankers.proofs.words.distinct_of_few.Given as goal

abbrev pub invariant-loop-place : goal.invariant-loop-place
invariant-loop-place l = (l.count ≡ distinct_count nat_eq (words_in l.field (take l.place l.hits))) × (l.count ≤ l.place)
