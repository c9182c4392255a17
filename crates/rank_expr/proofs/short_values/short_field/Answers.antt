use Rattle.std.proofs.Common.{◌∙◌, ap, subst, Some}
use Rattle.std.specs.Prelude.{pos}
use Rattle.rank_expr.specs.declared.expr.FieldFactor.{FieldFactor}
use Rattle.rank_expr.specs.ExpressionWeight.{field_value}
use Rattle.rank_expr.specs.steps.Summing.{IsAtMatched}
use Rattle.rank_expr.proofs.ByFields.{lcs_alone, words_alone}
use Rattle.rank_expr.proofs.short_values.short_field.Goals as goal

pub returns-in-Lcs : goal.returns-in-Lcs
returns-in-Lcs c = λ keywords fields hits alone at.
    ap (field_value hits c.args.weights.now.list c.args.factor) c.in-Some.is
    ∙ ap (λ (factor : FieldFactor). field_value hits c.args.weights.now.list factor (Some c.in-Some.field)) c.in-Lcs.is
    ∙ ap (λ n. Some (pos n)) (lcs_alone keywords fields c.args.weights.now.list hits alone c.in-Some.field (subst (IsAtMatched hits) c.in-Some.is at))

pub returns-in-WordCount : goal.returns-in-WordCount
returns-in-WordCount c = λ keywords fields hits alone at.
    ap (field_value hits c.args.weights.now.list c.args.factor) c.in-Some.is
    ∙ ap (λ (factor : FieldFactor). field_value hits c.args.weights.now.list factor (Some c.in-Some.field)) c.in-WordCount.is
    ∙ ap (λ n. Some (pos n)) (words_alone keywords fields c.args.weights.now.list hits alone c.in-Some.field (subst (IsAtMatched hits) c.in-Some.is at))
