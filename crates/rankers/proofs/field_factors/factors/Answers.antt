use Rattle.std.proofs.Common.{arith}
use Rattle.rankers.proofs.FewHits.{few_in_field}
use Rattle.rankers.proofs.OffsetRing.{lcs_few}
use Rattle.rankers.proofs.FieldValues.{words_few}
use Rattle.rankers.proofs.FirstHits.{ranked_within}
use Rattle.rankers.proofs.field_factors.factors.Goals as goal

pub overflow_cast-result : goal.overflow_cast-result
overflow_cast-result c = omega (arith, lcs_few c.args.field c.as_slice-list.result.now (ranked_within c.args.hits.now c.as_slice-list.result.now c.requires.0 c.as_slice-list.ensures c.requires.1))

pub overflow_cast-result-2 : goal.overflow_cast-result-2
overflow_cast-result-2 c = omega (arith, few_in_field c.args.field c.as_slice-list.result.now (ranked_within c.args.hits.now c.as_slice-list.result.now c.requires.0 c.as_slice-list.ensures c.requires.1))

pub overflow_cast-result-3 : goal.overflow_cast-result-3
overflow_cast-result-3 c = omega (arith, words_few c.args.field c.as_slice-list.result.now (ranked_within c.args.hits.now c.as_slice-list.result.now c.requires.0 c.as_slice-list.ensures c.requires.1))
