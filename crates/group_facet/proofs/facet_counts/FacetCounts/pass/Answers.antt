use Rattle.std.proofs.Common.{◌≡◌, ◌++◌, ◌∷◌, [], false, OnOk, Result, Ok, Err, subst}
use Rattle.row_select.specs.Filters.{is_weight}
use Rattle.row_select.proofs.Lighter.{same_column}
use Rattle.group_facet.specs.GatheringFacets.{GathersFacet}
use Rattle.group_facet.specs.declared.facets.Facet.{Facet}
use Rattle.group_facet.proofs.Passing.{gathered}
use Rattle.group_facet.proofs.facet_counts.FacetCounts.pass.Goals as goal

on_ok : {T E : Type 0} (P Q : Type 0) (result : Result T E) → (P → Q) → OnOk result P → OnOk result Q
on_ok P Q (Ok value) so is = so is
on_ok P Q (Err error) so is = tt

pub returns : goal.returns
returns g c = λ facet offered its lighter so.
    let row = g.R.FoundRow.as_row c.args.row.now in
    let other : is_weight facet.column ≡ false = subst (λ (f : Facet). is_weight f.column ≡ false) so.asked c.requires in
    on_ok (GathersFacet facet (offered ++ row ∷ []) c.offer.new.self) (GathersFacet facet (offered ++ its ∷ []) c.offer.new.self) c.offer.result
    (gathered facet offered its row (same_column facet.column its row other lighter) c.offer.new.self) (c.offer.ensures facet offered so)
