use Rattle.std.proofs.Common.{[], take}
use Rattle.table_search.specs.Gathering.{GatherFacets}
use Rattle.table_search.proofs.facet_sinks.FacetSinks.new.Given as goal

abbrev pub invariant-loop-facet : goal.invariant-loop-facet
invariant-loop-facet l = GatherFacets (take l.facet-index l.facets) [] l.list.items
