-- How a document is weighed, by all that a ranker may look at: its hits, the weights of the fields and the values of its attributes.
use Rattle.std.specs.Prelude.{ℕ, List, Option, Some, None}
use Rattle.doc_types.specs.declared.hits.Hits.{Hits}
use Rattle.doc_types.specs.declared.schema.Value.{Value}
use Rattle.rankers.specs.Weight.{weight}
use Rattle.rank_expr.specs.ExpressionWeight.{weight_by}
use Rattle.doc_search.specs.declared.ranking.Ranking.{Ranking}
use Rattle.doc_search.specs.declared.ranking.Ranking.TheVariants as rankings

-- 1 where there is a weight, or else 0
abbrev pub presence : Option ℕ → ℕ
presence None = 0
presence (Some weight) = 1

-- the weight that a ranker gives, where it gives one
abbrev pub weigh : Ranking → Hits → List ℕ → List Value → Option ℕ
weigh (rankings.Plain ranker) hits weights values = Some (weight ranker hits weights)
weigh (rankings.Expr expr) hits weights values = weight_by expr.root hits weights values
weigh (rankings.Lacking expr) hits weights values = Some (presence (weight_by expr.root hits weights values))
