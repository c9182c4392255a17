use Rattle.std.proofs.Common.{◌≡◌, ◌≤◌, take}
use Rattle.std.specs.List.{count_by}
use Rattle.ql_select.specs.Groups.{is_fold}
use Rattle.ql_select.proofs.grouping.folds_in.Given as goal

abbrev pub invariant-sources : goal.invariant-sources
invariant-sources l = (l.count ≤ l.source-index) × (l.count ≡ count_by is_fold (take l.source-index l.sources))
