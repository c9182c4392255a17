use Rattle.std.proofs.Common.{◌≡◌, ◌++◌, ◌∷◌, [], ap, subst, sym, ◌∙◌, arith}
use Rattle.row_select.specs.declared.row.Row.{Row}
use Rattle.group_facet.specs.Gathering.{GathersGroups}
use Rattle.group_facet.proofs.sinks.GroupsSink.pass.Goals as goal

pub returns : goal.returns
returns g c = λ first rows its lighter took group so.
    let row : Row = g.R.FoundRow.as_row c.args.row.now in
    let none : its.weight ≡ row.weight = omega (arith, lighter.weight, c.requires) in
    let same : its ≡ row =
    ap (λ id. record its { id = id }) lighter.id
    ∙ ap (λ weight. record its { id = row.id; weight = weight }) none
    ∙ ap (λ values. record row { values = values }) lighter.values in
    subst (λ offered. GathersGroups group (rows ++ offered ∷ []) c.offer.new.self) (sym same) (c.in_ok-offer.ensures group rows (took group so))
