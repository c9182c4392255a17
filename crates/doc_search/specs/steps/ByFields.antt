-- Rankers that look at no more of the hits of one keyword than which fields have one.
use Rattle.std.specs.Prelude.{◌≡◌, ◌≢◌, true}
use Rattle.rankers.specs.declared.ranker.Ranker.TheVariants as rankers
use Rattle.rank_expr.specs.ByFields.{goes_by_fields}
use Rattle.doc_search.specs.declared.ranking.Ranking.{Ranking}
use Rattle.doc_search.specs.declared.ranking.Ranking.TheVariants as rankings

abbrev pub LooksAtFields : Ranking → Type 0
LooksAtFields (rankings.Plain ranker) = ranker ≢ rankers.WordCount
LooksAtFields (rankings.Expr expr) = goes_by_fields expr.root ≡ true
LooksAtFields (rankings.Lacking expr) = goes_by_fields expr.root ≡ true
