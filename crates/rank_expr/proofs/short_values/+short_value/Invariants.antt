use Rattle.std.proofs.Common.{◌≡◌, ℕ, Some}
use Rattle.doc_types.specs.declared.hits.Hits.{Hits}
use Rattle.rank_expr.specs.ByFields.{AreAlone}
use Rattle.rank_expr.specs.ExpressionWeight.{is_matched, sum_below, value_of}
use Rattle.rank_expr.proofs.short_values.+short_value.Given as goal

abbrev pub invariant-fields : goal.invariant-fields
invariant-fields l = (keywords : ℕ) (hits : Hits) → AreAlone keywords l.fields l.weights.list hits → sum_below (is_matched hits) (λ (field : ℕ). value_of hits l.weights.list l.values l.body (Some field)) l.field ≡ Some l.sum
