use Rattle.std.proofs.Common.{◌≡◌, drop}
use Rattle.group_facet.specs.ShownGroups.{by_group_keys}
use Rattle.group_facet.proofs.shown.GroupPage.compare.Given as goal

abbrev pub invariant-loop-column : goal.invariant-loop-column
invariant-loop-column l = by_group_keys l.self.keys l.group l.other ≡ by_group_keys (drop l.column-index l.column-items) l.group l.other
