use Rattle.std.proofs.Common.{◌≡◌, ◌++◌, List, [], ◌∷◌, subst, sym}
use Rattle.group_facet.specs.declared.facet_counts.FacetCounts.{FacetCounts}
use Rattle.group_facet.specs.declared.facets.Facet.{Facet}
use Rattle.row_select.specs.declared.row.Row.{Row}
use Rattle.table_search.specs.Gathering.{GatherFacets}
use Rattle.table_search.proofs.facet_sinks.FacetSinksSink.count.Goals as goal

-- where there is no facet, any rows may have been offered
no_facet : (facets : List Facet) (before after : List Row) → GatherFacets facets before [] → GatherFacets facets after []
no_facet [] before after so = tt
no_facet (facet ∷ facets) before after so = absurd so

any_rows : (facets : List Facet) (before after : List Row) (list : List FacetCounts) → list ≡ [] → GatherFacets facets before list → GatherFacets facets after list
any_rows facets before after list none so = subst (GatherFacets facets after) (sym none) (no_facet facets before after (subst (GatherFacets facets before) none so))

pub returns : goal.returns
returns c = λ most from first before its none all long took facets so. any_rows facets before (before ++ its) c.args.self.now.list.items none (took facets so)
