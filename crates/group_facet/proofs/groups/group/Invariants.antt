use Rattle.std.proofs.Common.{take}
use Rattle.group_facet.specs.Gathering.{GathersGroups}
use Rattle.group_facet.proofs.groups.group.Given as goal

abbrev pub invariant-loop-row : goal.invariant-loop-row
invariant-loop-row l = GathersGroups l.group (take l.row-index l.row-items) l.groups
