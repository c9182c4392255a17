-- Facets while rows come one after the other.
use Rattle.std.specs.Prelude.{List}
use Rattle.std.specs.List.{AllZip}
use Rattle.row_select.specs.declared.row.Row.{Row}
use Rattle.group_facet.specs.GatheringFacets.{GathersFacet}
use Rattle.group_facet.specs.declared.facet_counts.FacetCounts.{FacetCounts}
use Rattle.group_facet.specs.declared.facets.Facet.{Facet}

-- these rows were offered to the counts of each of these facets
abbrev pub GatherFacets : List Facet → List Row → List FacetCounts → Type 0
GatherFacets facets offered counts = AllZip (λ facet here. GathersFacet facet offered here) facets counts
