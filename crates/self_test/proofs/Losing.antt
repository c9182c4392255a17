-- What is known of the texts of queries.
use Rattle.std.proofs.Common.{◌<◌, ℕ, arith}
use Rattle.self_test.specs.Summaries.{many}
use Rattle.self_test.specs.declared.summary.Count.{Count}
use Rattle.self_test.specs.declared.summary.Count.TheVariants.{Words, Pairs, Groups}
use Rattle.self_test.proofs.Querying.{EachHas, NoFault, OneQuery, OneTable}

pub below_fifty : (count : Count) (number : ℕ) → number < many count → number < 50
below_fifty Words number below = below
below_fifty Pairs number below = below
below_fifty Groups number below = omega (arith, below)

-- What is known of the texts of queries, and of tables of characters.
pub record Laws : Type 0 where
  pub each_has : EachHas
  pub no_fault : NoFault
  pub one_query : OneQuery
  pub one_table : OneTable
