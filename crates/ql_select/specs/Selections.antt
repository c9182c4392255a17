-- What a SELECT from an index means, or why it is refused.
use Rattle.std.specs.Prelude.{◌≡◌, ◌⊎◌, ℕ, List, true, false, codes, length, Some, None, Result, Ok, Err}
use Rattle.std.specs.Str.{is_utf8}
use Rattle.srch_base.specs.declared.faults.Or.{Or}
use Rattle.srch_base.specs.declared.faults.Or.TheVariants.{NoMemory, Fault}
use Rattle.query_read.specs.Spans.{folded}
use Rattle.doc_types.specs.declared.schema.Schema.{Schema}
use Rattle.index_conf.specs.declared.conf.IndexConf.{IndexConf}
use Rattle.doc_search.specs.declared.question.Question.{Question}
use Rattle.doc_search.specs.declared.ranking.Ranking.{Ranking}
use Rattle.op_eval.specs.Sentences.{query_for}
use Rattle.ql_tree.specs.declared.select.Select.{Select}
use Rattle.ql_refusals.specs.Refusals.{Refused, bad_query, wrong_kind}
use Rattle.query_read.specs.QueryFault.{QueryFault}
use Rattle.query_tree.specs.declared.query.Query.{Query}
use Rattle.query_read.specs.Queries.{ReadsQuery}
use Rattle.query_read.specs.Marks.{Setting, setting_of}
use Rattle.table_search.specs.declared.asked.Asked.{Asked}
use Rattle.ql_select.specs.declared.first_fault.Fault.{Fault as SelectFault}
use Rattle.ql_select.specs.declared.names.Names.{Names}
use Rattle.ql_select.specs.declared.selection.Selection.{Selection}
use Rattle.ql_select.specs.Columns.{columns_shown}
use Rattle.ql_select.specs.Faults.{select_fault}
use Rattle.ql_select.specs.Groups.{row_order, table_of}
use Rattle.ql_select.specs.Names.{names_of}
use Rattle.ql_select.specs.Options.{IsRanking, RefusesRanking, weights_of}
use Rattle.ql_select.specs.Parts.{match_text, page_of}

-- what the texts of an index are read by
abbrev pub setting : IndexConf → Setting
setting conf = setting_of (folded conf.charset) conf.schema

-- what a SELECT with these names asks of the documents: this query, these weights, and what its other parts say
abbrev pub question_of : IndexConf → Select → Names → Query → Ranking → Question
question_of conf select names query ranking = record {
  query = query_for conf.schema query;
  ranker = ranking;
  weights = record { list = weights_of conf.schema select.options };
  filters = names.filters;
  order = row_order names;
  page = page_of select;
  attrs = length conf.schema.attrs;
}

-- what it asks of the index: the search, the rows or groups of what that finds, and the facets
abbrev pub asked_of : IndexConf → Select → Names → Query → Ranking → Asked
asked_of conf select names query ranking = record {
  question = question_of conf select names query ranking;
  table = table_of names (page_of select);
  facets = names.facets;
}

-- what a SELECT with these names means: what it asks, and the columns of what it shows
abbrev pub selection_of : IndexConf → Select → Names → Query → Ranking → Selection
selection_of conf select names query ranking = record {
  asked = asked_of conf select names query ranking;
  shown = columns_shown conf.schema names.group select.items;
  facets = names.facet_columns;
}

-- the text is this query
abbrev pub IsQueryText : IndexConf → List ℕ → Query → Type 0
IsQueryText conf text query = (is_utf8 text ≡ true) × ReadsQuery (setting conf) text (Ok query)

-- A SELECT that nothing is wrong with means this, with the query that its text is, and weighed as its options say.
pub record Selects (conf : IndexConf) (select : Select) (selection : Selection) : Type 0 where
  pub good : select_fault conf.schema select ≡ None
  pub text : is_utf8 (match_text select.conds) ≡ true
  pub query : Query
  pub reads : ReadsQuery (setting conf) (match_text select.conds) (Ok query)
  pub ranking : Ranking
  pub ranks : IsRanking conf.schema select.options ranking
  pub means : selection ≡ selection_of conf select (names_of conf.schema select) query ranking

-- A SELECT is refused for the text of its MATCH: it is no query. No text of a statement has bytes that aren't UTF-8.
abbrev pub RefusesText : IndexConf → List ℕ → Refused → Type 0
RefusesText conf text refusal =
    ((is_utf8 text ≡ false) × (refusal ≡ wrong_kind (codes "match")))
    ⊎ ((is_utf8 text ≡ true) × ((fault : QueryFault) × ReadsQuery (setting conf) text (Err (Fault fault)) × (refusal ≡ bad_query fault)))

-- A SELECT is refused for its first fault.
abbrev pub RefusesNames : Schema → Select → Refused → Type 0
RefusesNames schema select refusal = (fault : SelectFault) × (select_fault schema select ≡ Some fault) × (refusal ≡ fault.refusal)

-- A SELECT is refused for the text of its ranker: that of its MATCH is a query, and it is no expression.
abbrev pub RefusesWeights : IndexConf → Select → Refused → Type 0
RefusesWeights conf select refusal = ((query : Query) × IsQueryText conf (match_text select.conds) query) × RefusesRanking conf.schema select.options refusal

-- Why a SELECT is refused by the index that it names.
abbrev pub RefusesSelection : IndexConf → Select → Refused → Type 0
RefusesSelection conf select refusal =
    RefusesNames conf.schema select refusal ⊎ ((select_fault conf.schema select ≡ None) × (RefusesText conf (match_text select.conds) refusal ⊎ RefusesWeights conf select refusal))

-- what is answered to a SELECT by the index that it names; without memory nothing is said
abbrev pub MeansOr : IndexConf → Select → Result Selection (Or Refused) → Type 0
MeansOr conf select (Ok selection) = Selects conf select selection
MeansOr conf select (Err NoMemory) = Unit {0}
MeansOr conf select (Err (Fault refusal)) = RefusesSelection conf select refusal
