use Rattle.std.proofs.Common.{◌≡◌, ℕ, Some}
use Rattle.rank_expr.specs.ExpressionWeight.{is_matched, sum_below, value_of}
use Rattle.rank_expr.specs.steps.Summing.{IsMemo}
use Rattle.rank_expr.proofs.ranking.+value_of.Given as goal

abbrev pub invariant-fields : goal.invariant-fields
invariant-fields l = record {
  sum : l.sum ≡ sum_below (is_matched l.hits) (λ (field : ℕ). value_of l.hits l.weights.list l.values l.body (Some field)) l.field;
  memo : IsMemo l.hits l.memo;
}
