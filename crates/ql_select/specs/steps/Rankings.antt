-- How the documents of a SELECT are weighed, as it is worked out.
use Rattle.std.specs.Prelude.{◌≡◌, ◌⊎◌, List, ℕ, Option, Result, Ok, Err}
use Rattle.srch_base.specs.declared.faults.Or.{Or}
use Rattle.srch_base.specs.declared.faults.Or.TheVariants.{NoMemory, Fault}
use Rattle.doc_types.specs.declared.schema.Schema.{Schema}
use Rattle.doc_search.specs.declared.ranking.Ranking.{Ranking}
use Rattle.index_conf.specs.declared.conf.IndexConf.{IndexConf}
use Rattle.op_eval.specs.Sentences.{query_for}
use Rattle.query_tree.specs.declared.query.Query.{Query}
use Rattle.ql_tree.specs.declared.select.OptionValue.{OptionValue}
use Rattle.ql_refusals.specs.Refusals.{Refused}
use Rattle.ql_select.specs.declared.rest.Rest.{Rest}
use Rattle.ql_select.specs.declared.selection.Selection.{Selection}
use Rattle.ql_select.specs.Options.{IsRankingIn, RefusesRankingIn}
use Rattle.ql_select.specs.Selections.{IsQueryText, RefusesText}
use Rattle.ql_select.specs.steps.Rests.{with_query}

-- what a value says of the weights; without memory nothing is said
abbrev pub RankingOr : Schema → Option OptionValue → Result Ranking (Or Refused) → Type 0
RankingOr schema value (Ok ranking) = IsRankingIn schema value ranking
RankingOr schema value (Err NoMemory) = Unit {0}
RankingOr schema value (Err (Fault refusal)) = RefusesRankingIn schema value refusal

-- What a SELECT means with the query of its text, or the text is refused.
abbrev pub AsksOr : IndexConf → List ℕ → Rest → Ranking → Result Selection (Or Refused) → Type 0
AsksOr conf text rest ranking (Ok selection) =
    (query : Query) × IsQueryText conf text query × (selection ≡ with_query (query_for conf.schema query) ranking rest)
AsksOr conf text rest ranking (Err NoMemory) = Unit {0}
AsksOr conf text rest ranking (Err (Fault refusal)) = RefusesText conf text refusal

-- A refusal that comes after those of the text.
abbrev pub RefusesAfter : IndexConf → List ℕ → Refused → Or Refused → Type 0
RefusesAfter conf text later NoMemory = Unit {0}
RefusesAfter conf text later (Fault refusal) = RefusesText conf text refusal ⊎ (((query : Query) × IsQueryText conf text query) × (refusal ≡ later))
