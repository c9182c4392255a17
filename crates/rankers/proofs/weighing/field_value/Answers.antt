use Rattle.std.proofs.Common.{◌+◌, ◌-◌, ◌*◌, ◌^◌, ◌≤◌, arith}
use Rattle.std.proofs.lemmas.Nat.{mul-le, one_shl}
use Rattle.rankers.specs.declared.ranker.Ranker.TheVariants as rankers
use Rattle.rankers.specs.declared.ranker.TheConstants.{MAX_FIELD_WEIGHT}
use Rattle.rankers.specs.Weight.{in_field}
use Rattle.rankers.proofs.FewHits.{few_in_field}
use Rattle.rankers.proofs.OffsetRing.{lcs_few}
use Rattle.rankers.proofs.FieldValues.{value_without, value_with, lcs_from_one, words_few, apart_small, any_small}
use Rattle.rankers.proofs.weighing.field_value.Goals as goal
use Rattle.rankers.proofs.weighing.field_value.Goals.{In-WordCount, After-longest, After-longest-in-MatchAny}

pub returns-then-count-eq0-clause-value : goal.returns-then-count-eq0-clause-value
returns-then-count-eq0-clause-value c = value_without c.args.ranker c.args.most c.args.field c.args.weight c.args.hits.now (omega arith)

count_small : (c : In-WordCount) → c.count_in-count.result * c.from-weight.result ≤ 1099494850560
count_small c = mul-le c.count_in-count.result c.from-weight.result 16777216 MAX_FIELD_WEIGHT (omega (arith, few_in_field c.args.field c.args.hits.now c.requires.within)) (omega arith)

pub overflow_mul-result : goal.overflow_mul-result
overflow_mul-result c = omega (arith, count_small c)

pub returns-in-WordCount-clause-value : goal.returns-in-WordCount-clause-value
returns-in-WordCount-clause-value c =
    value_with c.args.ranker rankers.WordCount c.args.most c.args.field c.args.weight _ c.args.hits.now c.in-WordCount.is (omega arith) cc

pub returns-in-WordCount-clause-bound : goal.returns-in-WordCount-clause-bound
returns-in-WordCount-clause-bound c = omega (arith, count_small c)

longest_small : (c : After-longest) → c.longest.result * c.from-weight.result ≤ 16711425
longest_small c = mul-le c.longest.result c.from-weight.result 255 MAX_FIELD_WEIGHT (omega (arith, lcs_few c.args.field c.args.hits.now c.requires.within)) (omega arith)

pub overflow_mul-result-in-Proximity : goal.overflow_mul-result-in-Proximity
overflow_mul-result-in-Proximity c = omega (arith, longest_small c)

pub returns-in-Proximity-clause-value : goal.returns-in-Proximity-clause-value
returns-in-Proximity-clause-value c =
    value_with c.args.ranker rankers.Proximity c.args.most c.args.field c.args.weight _ c.args.hits.now c.in-Proximity.is (omega arith) cc

pub returns-in-Proximity-clause-bound : goal.returns-in-Proximity-clause-bound
returns-in-Proximity-clause-bound c = omega (arith, longest_small c)

module _ (c : After-longest-in-MatchAny) where
  few : c.distinct_words.result ≤ 16777216
  few = omega (arith, words_few c.args.field c.args.hits.now c.requires.within)

  short : c.longest-in-MatchAny.result ≤ 255
  short = omega (arith, lcs_few c.args.field c.args.hits.now c.requires.within)

  apart : (c.longest-in-MatchAny.result - 1) * c.args.most ≤ 272730423042
  apart = apart_small c.distinct_words.result c.longest-in-MatchAny.result c.args.most c.args.weight few short c.requires.most c.requires.weight

  whole : (c.distinct_words.result + (c.longest-in-MatchAny.result - 1) * c.args.most) * c.from-weight.result ≤ 2 ^ 54
  whole = any_small c.distinct_words.result c.longest-in-MatchAny.result c.args.most c.from-weight.result few short c.requires.most (omega arith)

pub overflow_sub-result : goal.overflow_sub-result
overflow_sub-result c = omega (arith, lcs_from_one (in_field c.args.field c.args.hits.now) (omega arith))

pub overflow_mul-result-in-MatchAny : goal.overflow_mul-result-in-MatchAny
overflow_mul-result-in-MatchAny c = omega (arith, apart c)

pub overflow_add-result : goal.overflow_add-result
overflow_add-result c = omega (arith, apart c, few c)

pub overflow_mul-result-in-MatchAny-2 : goal.overflow_mul-result-in-MatchAny-2
overflow_mul-result-in-MatchAny-2 c = omega (arith, whole c)

pub returns-in-MatchAny-clause-value : goal.returns-in-MatchAny-clause-value
returns-in-MatchAny-clause-value c =
    value_with c.args.ranker rankers.MatchAny c.args.most c.args.field c.args.weight _ c.args.hits.now c.in-MatchAny.is (omega arith) cc

pub returns-in-MatchAny-clause-bound : goal.returns-in-MatchAny-clause-bound
returns-in-MatchAny-clause-bound c = omega (arith, whole c)

pub returns-in-FieldMask-clause-value : goal.returns-in-FieldMask-clause-value
returns-in-FieldMask-clause-value c =
    value_with c.args.ranker rankers.FieldMask c.args.most c.args.field c.args.weight _ c.args.hits.now c.in-FieldMask.is (omega arith) (one_shl c.args.field 64 (omega arith))
