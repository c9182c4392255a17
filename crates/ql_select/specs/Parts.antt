-- The conditions and the page that a SELECT states. "SELECT syntax" of the manual.
use Rattle.std.specs.Prelude.{ℕ, List, [], ◌∷◌, min, Option, Some, None}
use Rattle.std.specs.List.{flat_map}
use Rattle.doc_types.specs.declared.schema.Schema.{Schema}
use Rattle.ql_tree.specs.declared.select.Comparison.{Comparison}
use Rattle.ql_tree.specs.declared.select.Comparison.TheVariants as comparisons
use Rattle.ql_tree.specs.declared.select.Cond.{Cond}
use Rattle.ql_tree.specs.declared.select.Cond.TheVariants as conds
use Rattle.ql_tree.specs.declared.select.LimitPart.{LimitPart}
use Rattle.ql_tree.specs.declared.select.Select.{Select}
use Rattle.row_select.specs.declared.filter.CompareOp.{CompareOp}
use Rattle.row_select.specs.declared.filter.CompareOp.TheVariants as operators
use Rattle.row_select.specs.declared.filter.Filter.{Filter}
use Rattle.row_select.specs.declared.filter.Filter.TheVariants as filters
use Rattle.row_select.specs.declared.page.Page.{Page}
use Rattle.ql_select.specs.declared.limits.TheConstants.{DEFAULT_COUNT}
use Rattle.ql_select.specs.Options.{max_matches_of}
use Rattle.ql_select.specs.Targets.{column_of}

-- ---- conditions

-- the text of the MATCH; a SELECT without one finds what the empty text does, which is all documents
abbrev pub match_text : List Cond → List ℕ
match_text [] = []
match_text (conds.Match text ∷ rest) = text
match_text (cond ∷ rest) = match_text rest

abbrev pub operator : Comparison → CompareOp
operator comparisons.Equal = operators.Equal
operator comparisons.NotEqual = operators.NotEqual
operator comparisons.Less = operators.Less
operator comparisons.Greater = operators.Greater
operator comparisons.AtMost = operators.AtMost
operator comparisons.AtLeast = operators.AtLeast

-- what a condition asks of a column; MATCH asks nothing of columns
abbrev pub cond_filters : Schema → Cond → List Filter
cond_filters schema (conds.Match text) = []
cond_filters schema (conds.Compare name op value) = filters.Compare (column_of schema name) (operator op) value ∷ []
cond_filters schema (conds.Among name values negated) = filters.Among (column_of schema name) values negated ∷ []
cond_filters schema (conds.Between name low high) = filters.Between (column_of schema name) low high ∷ []

abbrev pub filters_of : Schema → List Cond → List Filter
filters_of schema conds = flat_map (cond_filters schema) conds

-- ---- the page

-- how many rows are passed over, and how many follow at most, by the numbers of LIMIT: `count`, or `offset, count`
abbrev pub limits_of : ℕ → Option ℕ → ℕ × ℕ
limits_of count None = (0, count)
limits_of offset (Some count) = (offset, count)

-- the same of a SELECT or a facet: the first `DEFAULT_COUNT`, if nothing is said
abbrev pub limits : Option LimitPart → ℕ × ℕ
limits None = (0, DEFAULT_COUNT)
limits (Some part) = limits_of part.first part.second

-- the page of documents or groups: there are no more than `max_matches` of them, so none is cut off by asking for no more
abbrev pub page_of : Select → Page
page_of select = record {
  offset = (limits select.limit).0;
  count = min (limits select.limit).1 (max_matches_of select.options);
  max_matches = max_matches_of select.options;
}
