use Rattle.std.proofs.Common.{◌≡◌, drop}
use Rattle.std.specs.List.{list_any}
use Rattle.ql_select.specs.Groups.{is_fold}
use Rattle.ql_select.proofs.grouping.has_fold.Given as goal

abbrev pub invariant-sources : goal.invariant-sources
invariant-sources l = list_any is_fold l.sources ≡ list_any is_fold (drop l.source-index l.sources)
