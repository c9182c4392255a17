-- The query that is asked in the place of another one among documents.
use Rattle.std.specs.Prelude.{◌≤◌, List, Option, Some, None, Result, Ok, Err}
use Rattle.srch_base.specs.declared.faults.Or.{Or}
use Rattle.srch_base.specs.declared.faults.Or.TheVariants.{NoMemory, Fault}
use Rattle.doc_types.specs.declared.documents.DocRow.{DocRow}
use Rattle.query_tree.specs.declared.query.Query.{Query}
use Rattle.query_tree.specs.TreeKeys.{query_keys}
use Rattle.prefix_terms.specs.Prefixes.{AreExpanded, IsQueryFor, Lists, words_together}
use Rattle.prefix_terms.specs.declared.expansion.TheConstants.{MAX_PREFIX_WORDS}
use Rattle.prefix_terms.specs.declared.expansion.TooMany.{TooMany}
use Rattle.prefix_search.specs.Searches.{AreTooMany}

-- The other query has the words of the query's prefixes in their place, and these aren't too many.
pub record IsAskedFor (query : Query) (docs : List DocRow) (other : Query) : Type 0 where
  pub lists : Lists
  pub words : AreExpanded docs (query_keys query) lists
  pub few : words_together lists ≤ MAX_PREFIX_WORDS
  pub is : IsQueryFor query lists other

-- What is asked in the place of a query: itself, if it has no prefixes. Without memory nothing is said.
abbrev pub Asks : Query → List DocRow → Result (Option Query) (Or TooMany) → Type 0
Asks query docs (Ok None) = IsAskedFor query docs query
Asks query docs (Ok (Some other)) = IsAskedFor query docs other
Asks query docs (Err NoMemory) = Unit {0}
Asks query docs (Err (Fault many)) = AreTooMany query docs many.count
