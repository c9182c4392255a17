-- The options of a SELECT. "SELECT syntax" of the manual.
use Rattle.std.specs.Prelude.{◌≡◌, ℕ, List, [], Bool, ◌||◌, reverse, map, codes, Option, Some, None, unwrap_or, if◌then◌else◌}
use Rattle.std.specs.List.{find}
use Rattle.std.specs.Option.{option_map}
use Rattle.std.specs.Str.{bytes_eq}
use Rattle.doc_types.specs.declared.schema.Schema.{Schema}
use Rattle.doc_search.specs.declared.ranking.Ranking.{Ranking}
use Rattle.doc_search.specs.declared.ranking.Ranking.TheVariants as rankings
use Rattle.rank_expr.specs.ExprFaults.{IsRefused, IsValue}
use Rattle.rank_expr.specs.declared.expr.RankExpr.{RankExpr}
use Rattle.rank_expr.specs.declared.fault.ExprFault.{ExprFault}
use Rattle.ql_refusals.specs.Refusals.{Refused, bad_expr}
use Rattle.ql_tree.specs.declared.select.OptionValue.{OptionValue}
use Rattle.ql_tree.specs.declared.select.OptionValue.TheVariants as values
use Rattle.ql_tree.specs.declared.select.SelectOption.{SelectOption}
use Rattle.rankers.specs.declared.ranker.Ranker.{Ranker}
use Rattle.rankers.specs.declared.ranker.Ranker.TheVariants as rankers
use Rattle.ql_select.specs.declared.options.TheConstants.{DEFAULT_MAX_MATCHES}

-- the names of the options
abbrev pub ranker_option : List ℕ
ranker_option = codes "ranker"

abbrev pub max_matches_option : List ℕ
max_matches_option = codes "max_matches"

abbrev pub field_weights_option : List ℕ
field_weights_option = codes "field_weights"

-- the ranker whose call has an expression as its text
abbrev pub expr_ranker : List ℕ
expr_ranker = codes "expr"

-- two that are read and not used
abbrev pub max_query_time_option : List ℕ
max_query_time_option = codes "max_query_time"

abbrev pub comment_option : List ℕ
comment_option = codes "comment"

-- there is an option of this name
abbrev pub is_option : List ℕ → Bool
is_option name =
    bytes_eq name ranker_option || bytes_eq name max_matches_option || bytes_eq name field_weights_option
    || bytes_eq name max_query_time_option || bytes_eq name comment_option

-- the ranker of a name
abbrev pub ranker_named : List ℕ → Option Ranker
ranker_named name =
    if bytes_eq name (codes "none") then Some rankers.None
    else if bytes_eq name (codes "wordcount") then Some rankers.WordCount
    else if bytes_eq name (codes "proximity") then Some rankers.Proximity
    else if bytes_eq name (codes "matchany") then Some rankers.MatchAny
    else if bytes_eq name (codes "fieldmask") then Some rankers.FieldMask
    else None

-- the value of the last option of this name, which is the one that counts
abbrev pub last_value : List SelectOption → List ℕ → Option OptionValue
last_value options name = option_map (λ option. option.value) (find (λ option. bytes_eq option.name name) (reverse options))

-- the ranker that a value names: `proximity`, if nothing is said
abbrev pub ranker_in : Option OptionValue → Ranker
ranker_in (Some (values.Name name)) = unwrap_or (ranker_named name) rankers.Proximity
ranker_in value = rankers.Proximity

-- How documents are weighed by a value: by the expression that the text of a call is, or by a ranker.
abbrev pub IsRankingIn : Schema → Option OptionValue → Ranking → Type 0
IsRankingIn schema (Some (values.Call name text)) ranking = (expr : RankExpr) × IsValue schema text expr × (ranking ≡ rankings.Expr expr)
IsRankingIn schema value ranking = ranking ≡ rankings.Plain (ranker_in value)

-- The text of a call is no expression.
abbrev pub RefusesRankingIn : Schema → Option OptionValue → Refused → Type 0
RefusesRankingIn schema (Some (values.Call name text)) refusal = (fault : ExprFault) × IsRefused schema text fault × (refusal ≡ bad_expr fault)
RefusesRankingIn schema value refusal = ⊥

-- how the documents of a SELECT are weighed, or why it is refused
abbrev pub IsRanking : Schema → List SelectOption → Ranking → Type 0
IsRanking schema options ranking = IsRankingIn schema (last_value options ranker_option) ranking

abbrev pub RefusesRanking : Schema → List SelectOption → Refused → Type 0
RefusesRanking schema options refusal = RefusesRankingIn schema (last_value options ranker_option) refusal

-- the number that a value is: `DEFAULT_MAX_MATCHES`, if nothing is said
abbrev pub number_in : Option OptionValue → ℕ
number_in (Some (values.Number number)) = number
number_in value = DEFAULT_MAX_MATCHES

-- how many rows there are for the page
abbrev pub max_matches_of : List SelectOption → ℕ
max_matches_of options = number_in (last_value options max_matches_option)

-- the weights that are given, by names of fields
abbrev pub weights_in : Option OptionValue → List (List ℕ × ℕ)
weights_in (Some (values.List list)) = list
weights_in value = []

-- the weight that is given to a field, else 1
abbrev pub weight_for : List (List ℕ × ℕ) → List ℕ → ℕ
weight_for list field = unwrap_or (option_map (λ given. given.1) (find (λ given. bytes_eq given.0 field) list)) 1

-- the weight of each field
abbrev pub weights_of : Schema → List SelectOption → List ℕ
weights_of schema options = map (weight_for (weights_in (last_value options field_weights_option))) schema.fields
