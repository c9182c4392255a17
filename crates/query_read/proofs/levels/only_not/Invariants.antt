use Rattle.std.proofs.Common.{◌≡◌, take}
use Rattle.query_read.specs.steps.Levels.{scanned, at_start, Refuses, IsLeast}
use Rattle.query_read.proofs.levels.only_not.Given as goal

abbrev pub invariant-loop-mark : goal.invariant-loop-mark
invariant-loop-mark l = record {
  scan : l.scan ≡ scanned at_start (take l.mark-index l.marks);
  found : IsLeast (Refuses at_start (take l.mark-index l.marks)) l.found;
}
