-- The pieces of a statement as it is written, in the grammar's order, and its canonical text.
use Rattle.std.specs.Prelude.{ℕ, Bool, true, false, List, [], ◌∷◌, ◌++◌}
use Rattle.ql_lex.specs.declared.token.Sign.TheVariants as signs
use Rattle.ql_grammar.specs.declared.keyword.Keyword.TheVariants as keywords
use Rattle.ql_tree.specs.declared.select.Cond.{Cond}
use Rattle.ql_tree.specs.declared.select.Cond.TheVariants as conds
use Rattle.ql_tree.specs.declared.select.FacetPart.{FacetPart}
use Rattle.ql_tree.specs.declared.select.Having.{Having}
use Rattle.ql_tree.specs.declared.select.LimitPart.{LimitPart}
use Rattle.ql_tree.specs.declared.select.OptionValue.{OptionValue}
use Rattle.ql_tree.specs.declared.select.OptionValue.TheVariants as values
use Rattle.ql_tree.specs.declared.select.Select.{Select}
use Rattle.ql_tree.specs.declared.select.SelectExpr.{SelectExpr}
use Rattle.ql_tree.specs.declared.select.SelectExpr.TheVariants as exprs
use Rattle.ql_tree.specs.declared.select.SelectItem.{SelectItem}
use Rattle.ql_tree.specs.declared.select.SelectItem.TheVariants as items
use Rattle.ql_tree.specs.declared.select.SelectOption.{SelectOption}
use Rattle.ql_tree.specs.declared.select.SortKey.{SortKey}
use Rattle.ql_tree.specs.declared.select.SortName.{SortName}
use Rattle.ql_tree.specs.declared.select.SortName.TheVariants as sorts
use Rattle.ql_tree.specs.declared.statement.Ids.{Ids}
use Rattle.ql_tree.specs.declared.statement.Ids.TheVariants as ids
use Rattle.ql_tree.specs.declared.statement.Plain.{Plain}
use Rattle.ql_tree.specs.declared.statement.Plain.TheVariants as plains
use Rattle.ql_tree.specs.declared.statement.Scope.{Scope}
use Rattle.ql_tree.specs.declared.statement.Scope.TheVariants as scopes
use Rattle.ql_tree.specs.declared.statement.SetValue.{SetValue}
use Rattle.ql_tree.specs.declared.statement.SetValue.TheVariants as settings
use Rattle.ql_tree.specs.declared.statement.Statement.{Statement}
use Rattle.ql_tree.specs.declared.statement.Statement.TheVariants as statements
use Rattle.ql_tree.specs.declared.statement.Target.{Target}
use Rattle.ql_tree.specs.declared.statement.Target.TheVariants as targets
use Rattle.ql_tree.specs.declared.statement.Val.{Val}
use Rattle.ql_tree.specs.declared.statement.Val.TheVariants as vals
use Rattle.ql_grammar.specs.Selects.{comparison_sign}
use Rattle.ql_write.specs.Pieces.{Piece, keyword, sign, name, number, text, variable, whole, listed, with_commas, in_parentheses, given, given_all, in_row, name_piece, number_piece, written}

-- COUNT ( * )
abbrev pub count_all : List Piece
count_all = keyword keywords.Count ∷ in_parentheses (sign signs.Star ∷ [])

-- WEIGHT ( )
abbrev pub weight : List Piece
weight = keyword keywords.Weight ∷ in_parentheses []

abbrev pub expr : SelectExpr → List Piece
expr (exprs.Column column) = name column ∷ []
expr exprs.CountAll = count_all
expr (exprs.CountDistinct column) = keyword keywords.Count ∷ in_parentheses (keyword keywords.Distinct ∷ name column ∷ [])
expr (exprs.Least column) = keyword keywords.Min ∷ in_parentheses (name column ∷ [])
expr (exprs.Greatest column) = keyword keywords.Max ∷ in_parentheses (name column ∷ [])
expr (exprs.Sum column) = keyword keywords.Sum ∷ in_parentheses (name column ∷ [])
expr exprs.Weight = weight
expr exprs.GroupBy = keyword keywords.GroupBy ∷ in_parentheses []

abbrev pub alias_pieces : List ℕ → List Piece
alias_pieces alias = keyword keywords.As ∷ name alias ∷ []

abbrev pub item : SelectItem → List Piece
item items.All = sign signs.Star ∷ []
item (items.One what alias) = expr what ++ given alias_pieces alias

abbrev pub negation : Bool → List Piece
negation true = keyword keywords.Not ∷ []
negation false = []

abbrev pub cond : Cond → List Piece
cond (conds.Match query) = keyword keywords.Match ∷ in_parentheses (text query ∷ [])
cond (conds.Compare column op value) = name column ∷ sign (comparison_sign op) ∷ whole value
cond (conds.Among column values negated) = name column ∷ negation negated ++ keyword keywords.In ∷ in_parentheses (with_commas whole values)
cond (conds.Between column low high) = name column ∷ keyword keywords.Between ∷ whole low ++ keyword keywords.And ∷ whole high

abbrev pub sort_name : SortName → List Piece
sort_name (sorts.Column column) = name column ∷ []
sort_name sorts.Weight = weight
sort_name sorts.CountAll = count_all

abbrev pub direction : Bool → List Piece
direction false = keyword keywords.Asc ∷ []
direction true = keyword keywords.Desc ∷ []

abbrev pub sort_key : SortKey → List Piece
sort_key key = sort_name key.by ++ given direction key.descending

-- ORDER BY, and keys
abbrev pub ordered : List SortKey → List Piece
ordered keys = keyword keywords.Order ∷ keyword keywords.By ∷ with_commas sort_key keys

abbrev pub having_pieces : Having → List Piece
having_pieces having = keyword keywords.Having ∷ sort_name having.left ++ sign (comparison_sign having.op) ∷ whole having.value

abbrev pub second_number : ℕ → List Piece
second_number n = sign signs.Comma ∷ number n ∷ []

abbrev pub limit_pieces : LimitPart → List Piece
limit_pieces limit = keyword keywords.Limit ∷ number limit.first ∷ given second_number limit.second

abbrev pub field_weight : List ℕ × ℕ → List Piece
field_weight pair = name pair.0 ∷ sign signs.Equal ∷ number pair.1 ∷ []

abbrev pub option_value : OptionValue → List Piece
option_value (values.Name bytes) = name bytes ∷ []
option_value (values.Number n) = number n ∷ []
option_value (values.Text bytes) = text bytes ∷ []
option_value (values.List pairs) = in_parentheses (with_commas field_weight pairs)
option_value (values.Call bytes argument) = name bytes ∷ in_parentheses (text argument ∷ [])

abbrev pub option : SelectOption → List Piece
option given_option = name given_option.name ∷ sign signs.Equal ∷ option_value given_option.value

abbrev pub facet_order : SortKey → List Piece
facet_order key = keyword keywords.Order ∷ keyword keywords.By ∷ sort_key key

abbrev pub facet : FacetPart → List Piece
facet part = keyword keywords.Facet ∷ name part.column ∷ given facet_order part.order ++ given limit_pieces part.limit

-- The parts of a SELECT after its index, each absent where it has no value.

abbrev pub where_pieces : List Cond → List Piece
where_pieces list = keyword keywords.Where ∷ listed (keyword keywords.And) cond list

abbrev pub group_pieces : List ℕ → List Piece
group_pieces column = keyword keywords.Group ∷ keyword keywords.By ∷ name column ∷ []

abbrev pub within_pieces : List SortKey → List Piece
within_pieces keys = keyword keywords.Within ∷ keyword keywords.Group ∷ ordered keys

abbrev pub option_pieces : List SelectOption → List Piece
option_pieces list = keyword keywords.Option ∷ with_commas option list

abbrev pub select_pieces : Select → List Piece
select_pieces select =
    keyword keywords.Select ∷ with_commas item select.items
    ++ keyword keywords.From ∷ name select.index
    ∷ given_all where_pieces select.conds
    ++ given group_pieces select.group
    ++ given_all within_pieces select.within
    ++ given having_pieces select.having
    ++ given_all ordered select.order
    ++ given limit_pieces select.limit
    ++ given_all option_pieces select.options
    ++ in_row facet select.facets

abbrev pub value : Val → List Piece
value (vals.Number z) = whole z
value (vals.Text bytes) = text bytes ∷ []

abbrev pub put_word : Bool → List Piece
put_word true = keyword keywords.Replace ∷ []
put_word false = keyword keywords.Insert ∷ []

abbrev pub columns_pieces : List (List ℕ) → List Piece
columns_pieces names = in_parentheses (with_commas name_piece names)

abbrev pub row : List Val → List Piece
row cells = in_parentheses (with_commas value cells)

abbrev pub ids_pieces : Ids → List Piece
ids_pieces (ids.One n) = sign signs.Equal ∷ number n ∷ []
ids_pieces (ids.Several ns) = keyword keywords.In ∷ in_parentheses (with_commas number_piece ns)

abbrev pub plain : Plain → List Piece
plain (plains.Name bytes) = name bytes ∷ []
plain (plains.Text bytes) = text bytes ∷ []

abbrev pub scope : Scope → List Piece
scope scopes.Absent = []
scope scopes.Global = keyword keywords.Global ∷ []
scope scopes.Session = keyword keywords.Session ∷ []

abbrev pub target : Target → List Piece
target (targets.Name bytes) = name bytes ∷ []
target (targets.Var bytes) = variable bytes ∷ []

abbrev pub setting : SetValue → List Piece
setting (settings.Name bytes) = name bytes ∷ []
setting (settings.Number z) = whole z
setting (settings.Text bytes) = text bytes ∷ []
setting settings.Null = keyword keywords.Null ∷ []

abbrev pub row_limit : ℕ → List Piece
row_limit n = keyword keywords.Limit ∷ number n ∷ []

abbrev pub pieces : Statement → List Piece
pieces (statements.Select select) = select_pieces select
pieces (statements.SelectVar bytes limit) = keyword keywords.Select ∷ variable bytes ∷ given row_limit limit
pieces statements.SelectDatabase = keyword keywords.Select ∷ keyword keywords.Database ∷ in_parentheses []
pieces (statements.Insert replace index columns rows) =
    put_word replace ++ keyword keywords.Into ∷ name index ∷ given columns_pieces columns
    ++ keyword keywords.Values ∷ with_commas row rows
pieces (statements.Delete index which) =
    keyword keywords.Delete ∷ keyword keywords.From ∷ name index ∷ keyword keywords.Where ∷ keyword keywords.Id ∷ ids_pieces which
pieces statements.Begin = keyword keywords.Begin ∷ []
pieces statements.StartTransaction = keyword keywords.Start ∷ keyword keywords.Transaction ∷ []
pieces statements.Commit = keyword keywords.Commit ∷ []
pieces statements.Rollback = keyword keywords.Rollback ∷ []
pieces (statements.SetAutocommit n) = keyword keywords.Set ∷ keyword keywords.Autocommit ∷ sign signs.Equal ∷ number n ∷ []
pieces (statements.SetNames what) = keyword keywords.Set ∷ keyword keywords.Names ∷ plain what
pieces (statements.SetOther for_whom what setting_value) =
    keyword keywords.Set ∷ scope for_whom ++ target what ++ sign signs.Equal ∷ setting setting_value
pieces (statements.FlushRamchunk index) = keyword keywords.Flush ∷ keyword keywords.RamChunk ∷ name index ∷ []
pieces (statements.FlushRtindex index) = keyword keywords.Flush ∷ keyword keywords.RtIndex ∷ name index ∷ []
pieces (statements.OptimizeIndex index) = keyword keywords.Optimize ∷ keyword keywords.Index ∷ name index ∷ []
pieces (statements.TruncateRtindex index) = keyword keywords.Truncate ∷ keyword keywords.RtIndex ∷ name index ∷ []
pieces (statements.Describe index) = keyword keywords.Describe ∷ name index ∷ []
pieces (statements.ShowIndexStatus index) = keyword keywords.Show ∷ keyword keywords.Index ∷ name index ∷ keyword keywords.Status ∷ []
pieces statements.ShowMeta = keyword keywords.Show ∷ keyword keywords.Meta ∷ []
pieces statements.ShowTables = keyword keywords.Show ∷ keyword keywords.Tables ∷ []
pieces statements.ShowWarnings = keyword keywords.Show ∷ keyword keywords.Warnings ∷ []
pieces statements.ShowVariables = keyword keywords.Show ∷ keyword keywords.Variables ∷ []
pieces statements.ShowDatabases = keyword keywords.Show ∷ keyword keywords.Databases ∷ []

-- the text of a statement
unfoldable pub canonical_text : Statement → List ℕ
canonical_text statement = written (pieces statement)
