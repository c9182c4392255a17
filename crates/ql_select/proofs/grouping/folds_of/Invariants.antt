use Rattle.std.proofs.Common.{◌≡◌, take}
use Rattle.std.specs.List.{filter_map}
use Rattle.ql_select.specs.Groups.{fold_of}
use Rattle.ql_select.proofs.grouping.folds_of.Given as goal

abbrev pub invariant-sources : goal.invariant-sources
invariant-sources l = l.folds.items ≡ filter_map fold_of (take l.source-index l.sources)
