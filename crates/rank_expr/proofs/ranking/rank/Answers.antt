use Rattle.rank_expr.proofs.PartValues.{nothing_kept}
use Rattle.rank_expr.proofs.ranking.rank.Goals as goal

pub value_of-value-requires-clause-memo : goal.value_of-value-requires-clause-memo
value_of-value-requires-clause-memo c = nothing_kept c.args.hits.now 32
