use Rattle.doc_search.proofs.WithoutWeight.{one_first, never_found}
use Rattle.doc_search.proofs.laws.a_search_ends_in_one_way.Goals as goal

pub returns-clause-first : goal.returns-clause-first
returns-clause-first c = one_first

pub returns-clause-apart : goal.returns-clause-apart
returns-clause-apart c = never_found
