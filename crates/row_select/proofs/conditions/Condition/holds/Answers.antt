use Rattle.std.proofs.Common.{◌∙◌, ap, rules}
use mir.Syntax.{w128}
use mir.Val.{SFits}
use Rattle.std.proofs.lemmas.Int.{to_z-of_z}
use Rattle.row_select.specs.Columns.{column_value}
use Rattle.row_select.specs.declared.filter.Filter.{Filter}
use Rattle.row_select.specs.steps.Listing.{column_of, passes}
use Rattle.row_select.proofs.Listed.{holds_by}
use Rattle.row_select.proofs.conditions.Condition.holds.Goals as goal

pub returns : goal.returns
returns g c =
    let fits : SFits w128 c.value.result = search rules in
    c.passes.ensures
    ∙ ap (passes c.args.self.now) (to_z-of_z w128 c.value.result fits ∙ c.value.ensures ∙ ap (λ column. column_value column (g.R.FoundRow.as_row c.args.row.now)) (c.column.ensures ∙ ap (λ (its : Filter). column_of its) c.self.view_is))
    ∙ holds_by c.args.self.now (g.R.FoundRow.as_row c.args.row.now)
