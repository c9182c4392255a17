-- The counts of a facet while the rows come one after the other.
use Rattle.std.specs.Prelude.{◌≡◌, false, List, Some, All, length}
use Rattle.std.specs.Map.{keys_of}
use Rattle.row_select.specs.Filters.{is_weight}
use Rattle.row_select.specs.declared.row.Row.{Row}
use Rattle.group_facet.specs.Distinct.{first_seen}
use Rattle.group_facet.specs.Folds.{column_values}
use Rattle.group_facet.specs.Groups.{part}
use Rattle.group_facet.specs.declared.facets.Facet.{Facet}
use Rattle.group_facet.specs.declared.facet_counts.FacetCounts.{FacetCounts}

-- these rows were offered
pub record GathersFacet (facet : Facet) (offered : List Row) (here : FacetCounts) : Type 0 where
  pub asked : here.facet.now ≡ facet
  pub keys : keys_of here.counts.entries ≡ first_seen (column_values facet.column offered)
  pub counts : All (λ entry. entry.1 ≡ length (part (Some facet.column) entry.0 offered)) here.counts.entries

-- what is counted isn't the weights of the rows
abbrev pub CountsNoWeights : FacetCounts → Type 0
CountsNoWeights here = is_weight here.facet.now.column ≡ false
