use Rattle.std.proofs.Common.{◌≤◌, ◌+◌, ◌^◌}
use Rattle.prefix_terms.proofs.Left.{left}
use Rattle.prefix_terms.proofs.Merged.{IsAmid}
use Rattle.prefix_terms.proofs.words.merged.Given as goal

abbrev pub invariant-words : goal.invariant-words
invariant-words g l = record {
  amid : IsAmid l.parts l.numbers.items l.room l.found.kept.items l.found.count;
  few : l.found.count + left l.parts l.numbers.items ≤ 2 ^ 48;
}

abbrev pub decreases-words : goal.decreases-words
decreases-words g l = left l.parts l.numbers.items
