use Rattle.std.proofs.Common.{◌∙◌, ap, sym}
use Rattle.rank_expr.specs.ExpressionWeight.{factor_of}
use Rattle.rank_expr.proofs.ByFields.{lcs_alone, words_alone}
use Rattle.rank_expr.proofs.by_fields.factor_alone.Goals as goal

pub returns-in-Lcs : goal.returns-in-Lcs
returns-in-Lcs c = λ goes keywords fields hits alone matched.
    sym (lcs_alone keywords fields c.args.weights.now.list hits alone c.args.field matched) ∙ ap (λ factor. factor_of hits c.args.weights.now.list factor c.args.field) (sym c.in-Lcs.is)

pub returns-in-WordCount : goal.returns-in-WordCount
returns-in-WordCount c = λ goes keywords fields hits alone matched.
    sym (words_alone keywords fields c.args.weights.now.list hits alone c.args.field matched) ∙ ap (λ factor. factor_of hits c.args.weights.now.list factor c.args.field) (sym c.in-WordCount.is)
