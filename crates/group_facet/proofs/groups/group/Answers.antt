use Rattle.std.proofs.Common.{◌∙◌, [], ◌∷◌, ◌++◌, List, ap, subst, sym, take}
use Rattle.std.proofs.lemmas.List.{take_more}
use Rattle.row_select.specs.declared.row.Row.{Row}
use Rattle.group_facet.specs.Gathering.{GathersGroups}
use Rattle.group_facet.proofs.groups.group.Goals as goal

pub loop-row-preserved : goal.loop-row-preserved
loop-row-preserved c =
    let rows = c.as_slice-row-items.result.now in
    let at = c.loop-row.row-index in
    subst (λ (seen : List Row). GathersGroups c.args.group.now seen c.offer.new.self)
    (sym (take_more rows at c.row-item.result c.loop-row-test.true ∙ ap (λ (row : Row). take at rows ++ row ∷ []) (sym c.row-item.is)))
    (c.in_ok-offer.ensures c.args.group.now (take at rows) c.loop-row.invariant)
