use Rattle.std.proofs.Common.{◌∙◌, ap, sym, subst, Some}
use Rattle.std.specs.Prelude.{pos}
use Rattle.rank_expr.specs.ExpressionWeight.{field_value}
use Rattle.rank_expr.specs.steps.Summing.{IsAtMatched}
use Rattle.rank_expr.proofs.by_fields.field_alone.Goals as goal

pub returns-in-Some : goal.returns-in-Some
returns-in-Some c = λ goes keywords fields hits alone at.
    c.as_value.ensures
    ∙ ap (λ n. Some (pos n)) (c.factor_alone.ensures goes keywords fields hits alone (subst (IsAtMatched hits) c.in-Some.is at))
    ∙ ap (field_value hits c.args.weights.now.list c.args.factor) (sym c.in-Some.is)
