use Rattle.prefix_search.proofs.OneExpansion.{one_count}
use Rattle.prefix_search.proofs.OneSearch.{nobody_lacks, none_found}
use Rattle.prefix_search.proofs.laws.too_many_words_are_so_many.Goals as goal

pub returns-clause-count : goal.returns-clause-count
returns-clause-count c = one_count

pub returns-clause-none : goal.returns-clause-none
returns-clause-none c = λ question docs others found count apart others_apart same. none_found question docs others apart others_apart same found count

pub returns-clause-nobody : goal.returns-clause-nobody
returns-clause-nobody c = λ question docs others id count apart others_apart same. nobody_lacks question docs others apart others_apart same id count
