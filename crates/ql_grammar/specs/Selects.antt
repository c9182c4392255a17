-- The tokens of a SELECT from an index.
use Rattle.std.specs.Prelude.{ℕ, Bool, true, false, List}
use Rattle.ql_lex.specs.declared.token.Sign.{Sign}
use Rattle.ql_lex.specs.declared.token.Sign.TheVariants as signs
use Rattle.ql_lex.specs.Tokens.{Lexeme}
use Rattle.ql_grammar.specs.declared.keyword.Keyword.TheVariants as keywords
use Rattle.ql_tree.specs.declared.select.Comparison.{Comparison}
use Rattle.ql_tree.specs.declared.select.Comparison.TheVariants as comparisons
use Rattle.ql_tree.specs.declared.select.Cond.{Cond}
use Rattle.ql_tree.specs.declared.select.Cond.TheVariants as conds
use Rattle.ql_tree.specs.declared.select.FacetPart.{FacetPart}
use Rattle.ql_tree.specs.declared.select.Having.{Having}
use Rattle.ql_tree.specs.declared.select.LimitPart.{LimitPart}
use Rattle.ql_tree.specs.declared.select.OptionValue.{OptionValue}
use Rattle.ql_tree.specs.declared.select.OptionValue.TheVariants as values
use Rattle.ql_tree.specs.declared.select.Select.{Select}
use Rattle.ql_tree.specs.declared.select.SelectExpr.{SelectExpr}
use Rattle.ql_tree.specs.declared.select.SelectExpr.TheVariants as exprs
use Rattle.ql_tree.specs.declared.select.SelectItem.{SelectItem}
use Rattle.ql_tree.specs.declared.select.SelectItem.TheVariants as items
use Rattle.ql_tree.specs.declared.select.SelectOption.{SelectOption}
use Rattle.ql_tree.specs.declared.select.SortKey.{SortKey}
use Rattle.ql_tree.specs.declared.select.SortName.{SortName}
use Rattle.ql_tree.specs.declared.select.SortName.TheVariants as sorts
use Rattle.ql_grammar.specs.Parts.{IsKeyword, AreKeywords, IsSign, IsComma, IsName, IsNumber, IsText, IsWhole, IsEnclosed, AreParens}
use Rattle.token_grammar.specs.Values.{◌then◌, IsAbsent, IsPerhaps, IsGiven, AreGiven, AreListed, AreInRow}

-- name | COUNT(*) | COUNT(DISTINCT name) | MIN(name) | MAX(name) | SUM(name) | WEIGHT() | GROUPBY()
abbrev pub IsExpr : SelectExpr → List Lexeme → Type 0
IsExpr (exprs.Column name) = IsName name
IsExpr exprs.CountAll = IsKeyword keywords.Count then IsEnclosed (IsSign signs.Star)
IsExpr (exprs.CountDistinct name) = IsKeyword keywords.Count then IsEnclosed (IsKeyword keywords.Distinct then IsName name)
IsExpr (exprs.Least name) = IsKeyword keywords.Min then IsEnclosed (IsName name)
IsExpr (exprs.Greatest name) = IsKeyword keywords.Max then IsEnclosed (IsName name)
IsExpr (exprs.Sum name) = IsKeyword keywords.Sum then IsEnclosed (IsName name)
IsExpr exprs.Weight = IsKeyword keywords.Weight then AreParens
IsExpr exprs.GroupBy = IsKeyword keywords.GroupBy then AreParens

-- [AS] name
abbrev pub IsAlias : List ℕ → List Lexeme → Type 0
IsAlias name = IsPerhaps (IsKeyword keywords.As) then IsName name

-- * | expr [[AS] name]
abbrev pub IsItem : SelectItem → List Lexeme → Type 0
IsItem items.All = IsSign signs.Star
IsItem (items.One expr alias) = IsExpr expr then IsGiven IsAlias alias

-- = != <> < > <= >=
abbrev pub comparison_sign : Comparison → Sign
comparison_sign comparisons.Equal = signs.Equal
comparison_sign comparisons.NotEqual = signs.NotEqual
comparison_sign comparisons.Less = signs.Less
comparison_sign comparisons.Greater = signs.Greater
comparison_sign comparisons.AtMost = signs.LessOrEqual
comparison_sign comparisons.AtLeast = signs.GreaterOrEqual

abbrev pub IsComparison : Comparison → List Lexeme → Type 0
IsComparison op = IsSign (comparison_sign op)

-- [NOT]
abbrev pub IsNegation : Bool → List Lexeme → Type 0
IsNegation true = IsKeyword keywords.Not
IsNegation false = IsAbsent

-- MATCH(text) | name op num | name [NOT] IN (num, ..) | name BETWEEN num AND num
abbrev pub IsCond : Cond → List Lexeme → Type 0
IsCond (conds.Match text) = IsKeyword keywords.Match then IsEnclosed (IsText text)
IsCond (conds.Compare name op value) = IsName name then IsComparison op then IsWhole value
IsCond (conds.Among name values negated) = IsName name then IsNegation negated then IsKeyword keywords.In then IsEnclosed (AreListed IsComma IsWhole values)
IsCond (conds.Between name low high) = IsName name then IsKeyword keywords.Between then IsWhole low then IsKeyword keywords.And then IsWhole high

-- WEIGHT()
abbrev pub IsWeight : List Lexeme → Type 0
IsWeight = IsKeyword keywords.Weight then AreParens

-- COUNT(*)
abbrev pub IsCount : List Lexeme → Type 0
IsCount = IsKeyword keywords.Count then IsEnclosed (IsSign signs.Star)

-- name | WEIGHT() | COUNT(*)
abbrev pub IsSort : SortName → List Lexeme → Type 0
IsSort (sorts.Column name) = IsName name
IsSort sorts.Weight = IsWeight
IsSort sorts.CountAll = IsCount

-- name | WEIGHT()
abbrev pub IsInnerSort : SortName → List Lexeme → Type 0
IsInnerSort (sorts.Column name) = IsName name
IsInnerSort sorts.Weight = IsWeight
IsInnerSort sorts.CountAll = λ u. ⊥

-- name | COUNT(*)
abbrev pub IsGroupSort : SortName → List Lexeme → Type 0
IsGroupSort (sorts.Column name) = IsName name
IsGroupSort sorts.Weight = λ u. ⊥
IsGroupSort sorts.CountAll = IsCount

-- ASC | DESC
abbrev pub IsDirection : Bool → List Lexeme → Type 0
IsDirection false = IsKeyword keywords.Asc
IsDirection true = IsKeyword keywords.Desc

-- what is sorted by, with its direction
abbrev pub IsKeyBy : (SortName → List Lexeme → Type 0) → SortKey → List Lexeme → Type 0
IsKeyBy Is key = Is key.by then IsGiven IsDirection key.descending

-- (name | COUNT(*)) op num
abbrev pub IsHaving : Having → List Lexeme → Type 0
IsHaving having = IsGroupSort having.left then IsComparison having.op then IsWhole having.value

-- , n
abbrev pub IsSecond : ℕ → List Lexeme → Type 0
IsSecond n = IsComma then IsNumber n

-- LIMIT n [, n]
abbrev pub IsLimit : LimitPart → List Lexeme → Type 0
IsLimit limit = IsKeyword keywords.Limit then IsNumber limit.first then IsGiven IsSecond limit.second

-- name = n
abbrev pub IsFieldWeight : List ℕ × ℕ → List Lexeme → Type 0
IsFieldWeight pair = IsName pair.0 then IsSign signs.Equal then IsNumber pair.1

-- ( text )
abbrev pub IsArgument : List ℕ → List Lexeme → Type 0
IsArgument text = IsEnclosed (IsText text)

-- name | n | text | ( name = n (, name = n)* ) | name ( text )
abbrev pub IsOptionValue : OptionValue → List Lexeme → Type 0
IsOptionValue (values.Name name) = IsName name
IsOptionValue (values.Number n) = IsNumber n
IsOptionValue (values.Text text) = IsText text
IsOptionValue (values.List pairs) = IsEnclosed (AreListed IsComma IsFieldWeight pairs)
IsOptionValue (values.Call name text) = IsName name then IsArgument text

-- name = value
abbrev pub IsOption : SelectOption → List Lexeme → Type 0
IsOption option = IsName option.name then IsSign signs.Equal then IsOptionValue option.value

-- ORDER BY (name | COUNT(*)) [ASC | DESC]
abbrev pub IsFacetOrder : SortKey → List Lexeme → Type 0
IsFacetOrder key = AreKeywords keywords.Order keywords.By then IsKeyBy IsGroupSort key

-- name [ORDER BY key] [LIMIT n [, n]]
abbrev pub IsFaceted : FacetPart → List Lexeme → Type 0
IsFaceted facet = IsName facet.column then IsGiven IsFacetOrder facet.order then IsGiven IsLimit facet.limit

-- FACET ..
abbrev pub IsFacet : FacetPart → List Lexeme → Type 0
IsFacet facet = IsKeyword keywords.Facet then IsFaceted facet

-- WHERE cond (AND cond)*
abbrev pub AreConds : List Cond → List Lexeme → Type 0
AreConds conds = IsKeyword keywords.Where then AreListed (IsKeyword keywords.And) IsCond conds

-- GROUP BY name
abbrev pub IsGroup : List ℕ → List Lexeme → Type 0
IsGroup name = AreKeywords keywords.Group keywords.By then IsName name

-- WITHIN GROUP ORDER BY inner (, inner)*
abbrev pub AreInnerKeys : List SortKey → List Lexeme → Type 0
AreInnerKeys keys = AreKeywords keywords.Within keywords.Group then AreKeywords keywords.Order keywords.By then AreListed IsComma (IsKeyBy IsInnerSort) keys

-- HAVING have
abbrev pub IsHavingPart : Having → List Lexeme → Type 0
IsHavingPart having = IsKeyword keywords.Having then IsHaving having

-- ORDER BY key (, key)*
abbrev pub AreKeys : List SortKey → List Lexeme → Type 0
AreKeys keys = AreKeywords keywords.Order keywords.By then AreListed IsComma (IsKeyBy IsSort) keys

-- OPTION opt (, opt)*
abbrev pub AreOptions : List SelectOption → List Lexeme → Type 0
AreOptions options = IsKeyword keywords.Option then AreListed IsComma IsOption options

-- item (, item)* FROM name [WHERE ..] [GROUP BY ..] [WITHIN GROUP ORDER BY ..] [HAVING ..] [ORDER BY ..] [LIMIT ..] [OPTION ..] facet*
abbrev pub IsSelected : Select → List Lexeme → Type 0
IsSelected select =
    AreListed IsComma IsItem select.items
    then IsKeyword keywords.From then IsName select.index
    then AreGiven AreConds select.conds
    then IsGiven IsGroup select.group
    then AreGiven AreInnerKeys select.within
    then IsGiven IsHavingPart select.having
    then AreGiven AreKeys select.order
    then IsGiven IsLimit select.limit
    then AreGiven AreOptions select.options
    then AreInRow IsFacet select.facets

abbrev pub IsSelect : Select → List Lexeme → Type 0
IsSelect select = IsKeyword keywords.Select then IsSelected select
