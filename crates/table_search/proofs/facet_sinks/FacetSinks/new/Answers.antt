use Rattle.std.proofs.Common.{[]}
use Rattle.group_facet.specs.GatheringFacets.{GathersFacet}
use Rattle.group_facet.specs.declared.facet_counts.FacetCounts.{FacetCounts}
use Rattle.group_facet.specs.declared.facets.Facet.{Facet}
use Rattle.group_facet.proofs.Beside.{zip_more}
use Rattle.table_search.proofs.facet_sinks.FacetSinks.new.Goals as goal

pub loop-facet-preserved : goal.loop-facet-preserved
loop-facet-preserved c =
    zip_more (λ (facet : Facet) (here : FacetCounts). GathersFacet facet [] here) c.args.facets.now c.loop-facet.facet-index _ c.loop-facet.list.items c.push.new.self.items c.new.result
    c.loop-facet-test.true c.in_ok-push.ensures.items c.loop-facet.invariant c.new.ensures
