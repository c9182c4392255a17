use Rattle.std.proofs.Common.{◌≡◌, ℕ, Some, true}
use Rattle.doc_types.specs.declared.hits.Hits.{Hits}
use Rattle.rank_expr.specs.ByFields.{AreAlone, goes_by_fields}
use Rattle.rank_expr.specs.ExpressionWeight.{is_matched, sum_below, value_of}
use Rattle.rank_expr.proofs.by_fields.+value_alone.Given as goal

abbrev pub invariant-fields : goal.invariant-fields
invariant-fields l = goes_by_fields l.body ≡ true → (hits : Hits) → AreAlone l.keywords l.fields l.weights.list hits → l.sum ≡ sum_below (is_matched hits) (λ (field : ℕ). value_of hits l.weights.list l.values l.body (Some field)) l.field
