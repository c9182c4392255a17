use Rattle.std.proofs.Common.{rules, ◌≡◌, ◌∙◌, Some, ap, sym, w64}
use Rattle.std.specs.Int.{cast_signed, cast_unsigned}
use Rattle.rank_expr.specs.ExpressionWeight.{weight_of}
use Rattle.rank_expr.proofs.ByFields.{weight_alone}
use Rattle.rank_expr.proofs.by_fields.rank_by_fields.Goals as goal

pub returns-in-Some : goal.returns-in-Some
returns-in-Some c = λ hits alone.
    let again : cast_signed w64 (cast_unsigned w64 c.in-Some.value) ≡ c.in-Some.value = search rules in
    c.short_weight.ensures
    ∙ ap (λ z. weight_of (Some z)) again
    ∙ ap weight_of (sym (c.in-Some.ensures c.args.keywords hits alone tt))
    ∙ weight_alone c.args.expr.now.root hits c.args.weights.now.list c.args.values.now alone.some
