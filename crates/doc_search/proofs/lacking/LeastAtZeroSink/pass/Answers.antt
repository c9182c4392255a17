use Rattle.std.proofs.Common.{◌≡◌, ◌++◌, ◌∷◌, [], ap, fold, subst, sym, ◌∙◌, arith}
use Rattle.std.specs.Prelude.{OnOk}
use Rattle.row_select.specs.declared.row.Row.{Row}
use Rattle.doc_search.specs.steps.Lacking.{at_zero}
use Rattle.doc_search.proofs.lacking.LeastAtZeroSink.pass.Goals as goal

pub returns : goal.returns
returns g c = λ first rows its lighter took.
    let row : Row = g.R.FoundRow.as_row c.args.row.now in
    let none : its.weight ≡ row.weight = omega (arith, lighter.weight, c.requires) in
    let same : its ≡ row =
    ap (λ id. record its { id = id }) lighter.id
    ∙ ap (λ weight. record its { id = row.id; weight = weight }) none
    ∙ ap (λ values. record row { values = values }) lighter.values in
    subst (λ offered. OnOk c.offer.result (c.offer.new.self.id ≡ fold at_zero first.id (rows ++ offered ∷ []))) (sym same) (c.offer.ensures first rows took)
