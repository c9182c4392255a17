use Rattle.std.proofs.Common.{◌∙◌, [], ◌∷◌, ◌++◌, List, ap, subst, sym, take}
use Rattle.std.proofs.lemmas.List.{take_more}
use Rattle.row_select.specs.declared.row.Row.{Row}
use Rattle.group_facet.specs.GatheringFacets.{GathersFacet}
use Rattle.group_facet.proofs.facet_counts.facet.Goals as goal

pub loop-row-preserved : goal.loop-row-preserved
loop-row-preserved c =
    let rows = c.args.rows.now in
    let at = c.loop-row.row-index in
    subst (λ (seen : List Row). GathersFacet c.args.facet.now seen c.offer.new.self)
    (sym (take_more rows at c.row-item.result c.loop-row-test.true ∙ ap (λ (row : Row). take at rows ++ row ∷ []) (sym c.row-item.is)))
    (c.in_ok-offer.ensures c.args.facet.now (take at rows) c.loop-row.invariant)
