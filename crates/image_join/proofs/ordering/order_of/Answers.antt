use Rattle.std.proofs.Common.{rules}
use Rattle.std.proofs.lemmas.List.Sorted.{IsNonDecreasingBy-from_sort_by_key}
use Rattle.image_join.specs.declared.ordering.Living.{Living}
use Rattle.image_join.proofs.ordering.order_of.Goals as goal

pub returns-clause-ascend : goal.returns-clause-ascend
returns-clause-ascend g c = IsNonDecreasingBy-from_sort_by_key (λ (living : Living). living.id) _ c.sort_unstable_by_key.ensures.sorted (λ a r q k. search rules)
