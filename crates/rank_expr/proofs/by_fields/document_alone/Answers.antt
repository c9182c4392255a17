use Rattle.std.proofs.Common.{◌∙◌, ap, sym}
use Rattle.rank_expr.specs.ExpressionWeight.{document_value}
use Rattle.rank_expr.proofs.ByFields.{mask_alone}
use Rattle.rank_expr.proofs.by_fields.document_alone.Goals as goal

pub returns-in-FieldMask : goal.returns-in-FieldMask
returns-in-FieldMask c = λ goes hits alone.
    c.weight_of_fields.ensures hits alone.query alone.word alone.some alone.ranked alone.one alone.are
    ∙ mask_alone c.args.weights.now.list hits alone.some
    ∙ ap (document_value hits c.args.weights.now.list) (sym c.in-FieldMask.is)
