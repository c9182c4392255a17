-- A row more for each of some facets, and what they show at the end.
use Rattle.std.proofs.Common.{◌≡◌, ℕ, ℤ, false, List, [], ◌∷◌, ◌++◌, subst}
use Rattle.std.specs.List.{All, AllZip}
use Rattle.std.proofs.lemmas.List.Elements.{All-head, All-tail}
use Rattle.row_select.specs.Filters.{is_weight}
use Rattle.row_select.specs.Sinks.{IsLighter}
use Rattle.row_select.proofs.Lighter.{same_column}
use Rattle.row_select.specs.declared.row.Row.{Row}
use Rattle.group_facet.specs.Facets.{IsFacet}
use Rattle.group_facet.specs.GatheringFacets.{CountsNoWeights, GathersFacet}
use Rattle.group_facet.proofs.Passing.{gathered}
use Rattle.group_facet.specs.declared.facet_counts.FacetCounts.{FacetCounts}
use Rattle.group_facet.specs.declared.facets.Facet.{Facet}
use Rattle.table_search.specs.Gathering.{GatherFacets}

-- the counts go on by a row, and show this at the end
abbrev pub GoesOn : Row → FacetCounts → FacetCounts → Type 0
GoesOn row before after = (facet : Facet) (offered : List Row) → GathersFacet facet offered before → GathersFacet facet (offered ++ row ∷ []) after

abbrev pub Shows : FacetCounts → List (ℤ × ℕ) → Type 0
Shows counts shown = (facet : Facet) (offered : List Row) → GathersFacet facet offered counts → IsFacet offered facet shown

pub gone_on : (facets : List Facet) (offered : List Row) (row : Row) (before after : List FacetCounts) → AllZip (GoesOn row) before after → GatherFacets facets offered before → GatherFacets facets (offered ++ row ∷ []) after
gone_on [] offered row [] [] go are = tt
gone_on [] offered row [] (new ∷ after) go are = absurd go
gone_on [] offered row (old ∷ before) after go are = absurd are
gone_on (facet ∷ facets) offered row [] after go are = absurd are
gone_on (facet ∷ facets) offered row (old ∷ before) [] go are = absurd go
gone_on (facet ∷ facets) offered row (old ∷ before) (new ∷ after) go are = (go.0 facet offered are.0, gone_on facets offered row before after go.1 are.1)

pub shown_all : (facets : List Facet) (offered : List Row) (counts : List FacetCounts) (shown : List (List (ℤ × ℕ))) → AllZip Shows counts shown → GatherFacets facets offered counts → AllZip (IsFacet offered) facets shown
shown_all [] offered [] [] show are = tt
shown_all [] offered [] (one ∷ shown) show are = absurd show
shown_all [] offered (here ∷ counts) shown show are = absurd are
shown_all (facet ∷ facets) offered [] shown show are = absurd are
shown_all (facet ∷ facets) offered (here ∷ counts) [] show are = absurd show
shown_all (facet ∷ facets) offered (here ∷ counts) (one ∷ shown) show are = (show.0 facet offered are.0, shown_all facets offered counts shown show.1 are.1)

-- facets that don't count weights have counted a lighter row as well
pub counted_lighter : (facets : List Facet) (offered : List Row) (its row : Row) (before after : List FacetCounts) → IsLighter its row → All CountsNoWeights before → GatherFacets facets offered before → GatherFacets facets (offered ++ row ∷ []) after → GatherFacets facets (offered ++ its ∷ []) after
counted_lighter [] offered its row before [] lighter others are so = tt
counted_lighter [] offered its row before (new ∷ after) lighter others are so = absurd so
counted_lighter (facet ∷ facets) offered its row before [] lighter others are so = absurd so
counted_lighter (facet ∷ facets) offered its row [] (new ∷ after) lighter others are so = absurd are
counted_lighter (facet ∷ facets) offered its row (old ∷ before) (new ∷ after) lighter others are so =
    let other : is_weight facet.column ≡ false = subst (λ (f : Facet). is_weight f.column ≡ false) are.0.asked (All-head CountsNoWeights old before others) in (
      gathered facet offered its row (same_column facet.column its row other lighter) new so.0,
      counted_lighter facets offered its row before after lighter (All-tail CountsNoWeights old before others) are.1 so.1,
    )
