use Rattle.std.proofs.Common.{take}
use Rattle.group_facet.specs.GatheringFacets.{GathersFacet}
use Rattle.group_facet.proofs.facet_counts.facet.Given as goal

abbrev pub invariant-loop-row : goal.invariant-loop-row
invariant-loop-row l = GathersFacet l.facet (take l.row-index l.rows) l.counts
