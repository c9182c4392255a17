use Rattle.prefix_search.proofs.OneSearch.{found_too, never_found, one_first}
use Rattle.prefix_search.proofs.laws.a_search_finds_the_same.Goals as goal

pub returns-clause-found : goal.returns-clause-found
returns-clause-found c = λ question docs others found other apart others_apart same. found_too question docs others apart others_apart same found other

pub returns-clause-first : goal.returns-clause-first
returns-clause-first c = λ question docs others id other apart others_apart same. one_first question docs others apart others_apart same id other

pub returns-clause-apart : goal.returns-clause-apart
returns-clause-apart c = λ question docs others found id apart others_apart same. never_found question docs others apart others_apart same found id
