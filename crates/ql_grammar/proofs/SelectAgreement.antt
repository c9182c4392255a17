-- The grammar of SELECT and the values of its texts, line by line.
use Rattle.std.proofs.Common.{◌≡◌, ℕ, List, [], ◌++◌, Bool, true, false, Option, Some, None, ◌⊎◌, inl, inr, refl, sym, ◌∙◌, ap, subst, append-nil}
use Rattle.ql_lex.specs.declared.token.Sign.TheVariants as signs
use Rattle.ql_lex.specs.Tokens.{Lexeme}
use Rattle.ql_grammar.specs.declared.keyword.Keyword.{Keyword}
use Rattle.ql_grammar.specs.declared.keyword.Keyword.TheVariants as keywords
use Rattle.ql_grammar.specs.declared.kind.Kind.{Kind}
use Rattle.ql_grammar.specs.declared.kind.Kind.TheVariants as kinds
use Rattle.ql_tree.specs.declared.select.Comparison.{Comparison}
use Rattle.ql_tree.specs.declared.select.Comparison.TheVariants as comparisons
use Rattle.ql_tree.specs.declared.select.Cond.{Cond}
use Rattle.ql_tree.specs.declared.select.Cond.TheVariants as condition
use Rattle.ql_tree.specs.declared.select.OptionValue.{OptionValue}
use Rattle.ql_tree.specs.declared.select.OptionValue.TheVariants as values
use Rattle.ql_tree.specs.declared.select.SelectExpr.{SelectExpr}
use Rattle.ql_tree.specs.declared.select.SelectExpr.TheVariants as exprs
use Rattle.ql_tree.specs.declared.select.SelectItem.{SelectItem}
use Rattle.ql_tree.specs.declared.select.SelectItem.TheVariants as items
use Rattle.ql_tree.specs.declared.select.SortName.{SortName}
use Rattle.ql_tree.specs.declared.select.SortName.TheVariants as sorts
use Rattle.ql_grammar.specs.Tokens.{kind}
use Rattle.ql_grammar.specs.Classes.{a_comparison, fits}
use Rattle.token_grammar.specs.Language.{Re, In}
use Rattle.ql_grammar.specs.Terminals.{keyword, name, enclosed}
use Rattle.ql_grammar.specs.steps.Grammar.{weight, count, counted, expr, alias, item, comparison, cond, test, direction, having, limit, field_weight, option_value, option, facet, conds, group, within, having_part, order, options, select}
use Rattle.token_grammar.specs.Language.{◌⨾◌, ◌∣◌}
use Rattle.ql_grammar.specs.Parts.{IsKeyword, IsSign, IsName, IsText, IsEnclosed}
use Rattle.token_grammar.specs.Values.{◌then◌, IsAbsent, IsGiven, AreGiven}
use Rattle.ql_grammar.specs.Selects.{comparison_sign, IsExpr, IsAlias, IsItem, IsComparison, IsCond, IsWeight, IsCount, IsSort, IsInnerSort, IsGroupSort, IsDirection, IsKeyBy, IsHaving, IsLimit, IsFieldWeight, IsOptionValue, IsOption, IsFacet, AreConds, IsGroup, AreInnerKeys, IsHavingPart, AreKeys, AreOptions, IsSelected}
use Rattle.ql_grammar.specs.steps.Selecting.{IsCounted}
use Rattle.ql_grammar.proofs.Agreement.{agree_name, agree_number, agree_sign, agree_keyword}
use Rattle.token_grammar.proofs.Agreement.{Agree, Agrees, agree_as, agree_listed, agree_seq}
use Rattle.ql_grammar.proofs.Agreements.{agree_enclosed, agree_parens, agree_text, agree_whole, agree_wholes, agree_keywords}
use Rattle.token_grammar.proofs.Agreement.{IsEither, agree_after, agree_lists, agree_optional, agree_or, agree_perhaps, agree_row}
use Rattle.token_grammar.proofs.NamedChoices.{agree_named}
use Rattle.ql_grammar.proofs.SelectRows.{ExprRow, ExprValue, IsExprPart, after_count, expr_part, all_exprs, TestRow, TestValue, IsTest, AreWholes, after_between, test_part, all_tests, SortRow, SortValue, IsSortPart, after_weight, sort_part, all_sorts, OptionRow, OptionParts, IsOptionPart, after_a_name, option_part, all_options}
use Rattle.ql_grammar.specs.Alphabet.{sphinxql}
use Rattle.ql_grammar.specs.Classes.{Class}

-- A comparison.
pub sign_compares : (op : Comparison) → fits a_comparison (kinds.Sign (comparison_sign op)) ≡ true
sign_compares comparisons.Equal = refl
sign_compares comparisons.NotEqual = refl
sign_compares comparisons.Less = refl
sign_compares comparisons.Greater = refl
sign_compares comparisons.AtMost = refl
sign_compares comparisons.AtLeast = refl

-- Expressions and items.
agree_counted : Agree sphinxql counted IsCounted
agree_counted = agree_as (agree_or (agree_sign signs.Star) (agree_after (agree_keyword keywords.Distinct) agree_name)) there back
  where
    Is : Unit {0} ⊎ List ℕ → List Lexeme → Type 0
    Is = IsEither (λ _. IsSign signs.Star) (λ column. IsKeyword keywords.Distinct then IsName column)

    there : (x : Unit {0} ⊎ List ℕ) (u : List Lexeme) → Is x u → (y : Option (List ℕ)) × IsCounted y u
    there (inl _) u h = (None, h)
    there (inr column) u h = (Some column, h)

    back : (y : Option (List ℕ)) (u : List Lexeme) → IsCounted y u → (x : Unit {0} ⊎ List ℕ) × Is x u
    back None u h = (inl tt, h)
    back (Some column) u h = (inr column, h)

agree_argument : (w : Keyword) → Agree sphinxql (keyword w ⨾ enclosed name) (λ column. IsKeyword w then IsEnclosed (IsName column))
agree_argument w = agree_after (agree_keyword w) (agree_enclosed agree_name)

agree_weight : Agrees sphinxql weight IsWeight
agree_weight = agree_after (agree_keyword keywords.Weight) agree_parens

agree_count : Agrees sphinxql count IsCount
agree_count = agree_after (agree_keyword keywords.Count) (agree_enclosed (agree_sign signs.Star))

agree_expr : Agree sphinxql expr IsExpr
agree_expr = agree_as (agree_named ExprRow.count after_count all_exprs by_row) there back
  where
    by_row : (row : ExprRow) → Agree sphinxql (expr_part row) (IsExprPart row)
    by_row ExprRow.count = agree_after (agree_keyword keywords.Count) (agree_enclosed agree_counted)
    by_row ExprRow.least = agree_argument keywords.Min
    by_row ExprRow.greatest = agree_argument keywords.Max
    by_row ExprRow.sum = agree_argument keywords.Sum
    by_row ExprRow.weight = agree_weight
    by_row ExprRow.group_by = agree_after (agree_keyword keywords.GroupBy) agree_parens
    by_row ExprRow.column = agree_name

    there : (x : (row : ExprRow) × ExprValue row) (u : List Lexeme) → IsExprPart x.0 x.1 u → (y : SelectExpr) × IsExpr y u
    there (ExprRow.count, None) u h = (exprs.CountAll, h)
    there (ExprRow.count, Some column) u h = (exprs.CountDistinct column, h)
    there (ExprRow.least, column) u h = (exprs.Least column, h)
    there (ExprRow.greatest, column) u h = (exprs.Greatest column, h)
    there (ExprRow.sum, column) u h = (exprs.Sum column, h)
    there (ExprRow.weight, _) u h = (exprs.Weight, h)
    there (ExprRow.group_by, _) u h = (exprs.GroupBy, h)
    there (ExprRow.column, column) u h = (exprs.Column column, h)

    back : (y : SelectExpr) (u : List Lexeme) → IsExpr y u → (x : (row : ExprRow) × ExprValue row) × IsExprPart x.0 x.1 u
    back exprs.CountAll u h = ((ExprRow.count, None), h)
    back (exprs.CountDistinct column) u h = ((ExprRow.count, Some column), h)
    back (exprs.Least column) u h = ((ExprRow.least, column), h)
    back (exprs.Greatest column) u h = ((ExprRow.greatest, column), h)
    back (exprs.Sum column) u h = ((ExprRow.sum, column), h)
    back exprs.Weight u h = ((ExprRow.weight, tt), h)
    back exprs.GroupBy u h = ((ExprRow.group_by, tt), h)
    back (exprs.Column column) u h = ((ExprRow.column, column), h)

agree_alias : Agree sphinxql alias IsAlias
agree_alias = agree_after (agree_perhaps (agree_keyword keywords.As)) agree_name

agree_item : Agree sphinxql item IsItem
agree_item = agree_as (agree_or (agree_sign signs.Star) (agree_seq agree_expr (agree_optional agree_alias))) there back
  where
    Is : Unit {0} ⊎ SelectExpr × Option (List ℕ) → List Lexeme → Type 0
    Is = IsEither (λ _. IsSign signs.Star) (λ x. IsExpr x.0 then IsGiven IsAlias x.1)

    there : (x : Unit {0} ⊎ SelectExpr × Option (List ℕ)) (u : List Lexeme) → Is x u → (y : SelectItem) × IsItem y u
    there (inl _) u h = (items.All, h)
    there (inr (e, a)) u h = (items.One e a, h)

    back : (y : SelectItem) (u : List Lexeme) → IsItem y u → (x : Unit {0} ⊎ SelectExpr × Option (List ℕ)) × Is x u
    back items.All u h = (inl tt, h)
    back (items.One e a) u h = (inr (e, a), h)

-- Conditions.
comparison_kind : (k : Kind) → fits a_comparison k ≡ true → (op : Comparison) × (k ≡ kinds.Sign (comparison_sign op))
comparison_kind (kinds.Keyword w) e = cc
comparison_kind kinds.Name e = cc
comparison_kind kinds.Number e = cc
comparison_kind kinds.Text e = cc
comparison_kind kinds.SysVar e = cc
comparison_kind kinds.End e = cc
comparison_kind (kinds.Sign signs.Equal) e = (comparisons.Equal, refl)
comparison_kind (kinds.Sign signs.NotEqual) e = (comparisons.NotEqual, refl)
comparison_kind (kinds.Sign signs.Less) e = (comparisons.Less, refl)
comparison_kind (kinds.Sign signs.Greater) e = (comparisons.Greater, refl)
comparison_kind (kinds.Sign signs.LessOrEqual) e = (comparisons.AtMost, refl)
comparison_kind (kinds.Sign signs.GreaterOrEqual) e = (comparisons.AtLeast, refl)
comparison_kind (kinds.Sign signs.OpenParen) e = cc
comparison_kind (kinds.Sign signs.CloseParen) e = cc
comparison_kind (kinds.Sign signs.Comma) e = cc
comparison_kind (kinds.Sign signs.Semicolon) e = cc
comparison_kind (kinds.Sign signs.Star) e = cc
comparison_kind (kinds.Sign signs.Minus) e = cc

agree_comparison : Agree sphinxql comparison IsComparison
unfolding In
agree_comparison = record {
  text = λ op u (t, e, k). (t, e, ap (fits a_comparison) k ∙ sign_compares op);
  value = λ u (t, e, f). let (op, k) = comparison_kind (kind t) f in (op, (t, e, k));
}

agree_test : Agree sphinxql test (λ (x : (row : TestRow) × TestValue row). IsTest x.0 x.1)
agree_test = agree_named TestRow.between after_between all_tests by_row
  where
    by_row : (row : TestRow) → Agree sphinxql (test_part row) (IsTest row)
    by_row TestRow.between = agree_after (agree_keyword keywords.Between) (agree_seq agree_whole (agree_after (agree_keyword keywords.And) agree_whole))
    by_row TestRow.not_among = agree_after (agree_keyword keywords.Not) (agree_after (agree_keyword keywords.In) agree_wholes)
    by_row TestRow.among = agree_after (agree_keyword keywords.In) agree_wholes
    by_row TestRow.compare = agree_seq agree_comparison agree_whole

agree_cond : Agree sphinxql cond IsCond
agree_cond = agree_as (agree_or (agree_after (agree_keyword keywords.Match) (agree_enclosed agree_text)) (agree_seq agree_name agree_test)) there back
  where
    Value : Type 0
    Value = List ℕ ⊎ List ℕ × ((row : TestRow) × TestValue row)

    Is : Value → List Lexeme → Type 0
    Is = IsEither (λ query. IsKeyword keywords.Match then IsEnclosed (IsText query)) (λ x. IsName x.0 then IsTest x.1.0 x.1.1)

    there : (x : Value) (u : List Lexeme) → Is x u → (y : Cond) × IsCond y u
    there (inl query) u h = (condition.Match query, h)
    there (inr (column, (TestRow.between, (low, high)))) u h = (condition.Between column low high, h)
    there (inr (column, (TestRow.not_among, numbers))) u h = (condition.Among column numbers true, h)
    there (inr (column, (TestRow.among, numbers))) u (a, b, e, p, q) = (condition.Among column numbers false, (a, b, e, p, ([], b, refl, refl, q)))
    there (inr (column, (TestRow.compare, (op, value)))) u h = (condition.Compare column op value, h)

    back : (y : Cond) (u : List Lexeme) → IsCond y u → (x : Value) × Is x u
    back (condition.Match query) u h = (inl query, h)
    back (condition.Between column low high) u h = (inr (column, (TestRow.between, (low, high))), h)
    back (condition.Among column numbers true) u h = (inr (column, (TestRow.not_among, numbers)), h)
    back (condition.Among column numbers false) u (a, b, e, p, (c, d, f, g, q)) =
        (inr (column, (TestRow.among, numbers)), (a, b, e, p, subst (λ v. (IsKeyword keywords.In then AreWholes numbers) v) (sym (f ∙ ap (λ v. v ++ d) g)) q))
    back (condition.Compare column op value) u h = (inr (column, (TestRow.compare, (op, value))), h)

agree_conds : Agree sphinxql conds (AreGiven AreConds)
agree_conds = agree_lists AreConds (λ u (a, b, e, p, q). q) (agree_after (agree_keyword keywords.Where) (agree_listed (agree_keyword keywords.And) agree_cond))

-- Sorting.
agree_sort : Agree sphinxql (weight ∣ count ∣ name) IsSort
agree_sort = agree_as (agree_named SortRow.weight after_weight all_sorts by_row) there back
  where
    by_row : (row : SortRow) → Agree sphinxql (sort_part row) (IsSortPart row)
    by_row SortRow.weight = agree_weight
    by_row SortRow.count = agree_count
    by_row SortRow.column = agree_name

    there : (x : (row : SortRow) × SortValue row) (u : List Lexeme) → IsSortPart x.0 x.1 u → (y : SortName) × IsSort y u
    there (SortRow.weight, _) u h = (sorts.Weight, h)
    there (SortRow.count, _) u h = (sorts.CountAll, h)
    there (SortRow.column, column) u h = (sorts.Column column, h)

    back : (y : SortName) (u : List Lexeme) → IsSort y u → (x : (row : SortRow) × SortValue row) × IsSortPart x.0 x.1 u
    back sorts.Weight u h = ((SortRow.weight, tt), h)
    back sorts.CountAll u h = ((SortRow.count, tt), h)
    back (sorts.Column column) u h = ((SortRow.column, column), h)

agree_inner_sort : Agree sphinxql (weight ∣ name) IsInnerSort
agree_inner_sort = agree_as (agree_or agree_weight agree_name) there back
  where
    Is : Unit {0} ⊎ List ℕ → List Lexeme → Type 0
    Is = IsEither (λ _. IsWeight) IsName

    there : (x : Unit {0} ⊎ List ℕ) (u : List Lexeme) → Is x u → (y : SortName) × IsInnerSort y u
    there (inl _) u h = (sorts.Weight, h)
    there (inr column) u h = (sorts.Column column, h)

    back : (y : SortName) (u : List Lexeme) → IsInnerSort y u → (x : Unit {0} ⊎ List ℕ) × Is x u
    back sorts.Weight u h = (inl tt, h)
    back sorts.CountAll u h = absurd h
    back (sorts.Column column) u h = (inr column, h)

agree_group_sort : Agree sphinxql (count ∣ name) IsGroupSort
agree_group_sort = agree_as (agree_or agree_count agree_name) there back
  where
    Is : Unit {0} ⊎ List ℕ → List Lexeme → Type 0
    Is = IsEither (λ _. IsCount) IsName

    there : (x : Unit {0} ⊎ List ℕ) (u : List Lexeme) → Is x u → (y : SortName) × IsGroupSort y u
    there (inl _) u h = (sorts.CountAll, h)
    there (inr column) u h = (sorts.Column column, h)

    back : (y : SortName) (u : List Lexeme) → IsGroupSort y u → (x : Unit {0} ⊎ List ℕ) × Is x u
    back sorts.Weight u h = absurd h
    back sorts.CountAll u h = (inl tt, h)
    back (sorts.Column column) u h = (inr column, h)

agree_direction : Agree sphinxql direction (IsGiven IsDirection)
agree_direction = agree_optional (agree_as (agree_or (agree_keyword keywords.Asc) (agree_keyword keywords.Desc)) there back)
  where
    Is : Unit {0} ⊎ Unit {0} → List Lexeme → Type 0
    Is = IsEither (λ _. IsKeyword keywords.Asc) (λ _. IsKeyword keywords.Desc)

    there : (x : Unit {0} ⊎ Unit {0}) (u : List Lexeme) → Is x u → (y : Bool) × IsDirection y u
    there (inl _) u h = (false, h)
    there (inr _) u h = (true, h)

    back : (y : Bool) (u : List Lexeme) → IsDirection y u → (x : Unit {0} ⊎ Unit {0}) × Is x u
    back false u h = (inl tt, h)
    back true u h = (inr tt, h)

agree_key_by : {r : Re Class} {Is : SortName → List Lexeme → Type 0} → Agree sphinxql r Is → Agree sphinxql (r ⨾ direction) (IsKeyBy Is)
agree_key_by h = agree_as (agree_seq h agree_direction) (λ x u i. (record { by = x.0; descending = x.1 }, i)) (λ y u i. ((y.by, y.descending), i))

agree_group : Agree sphinxql group (IsGiven IsGroup)
agree_group = agree_optional (agree_after (agree_keywords keywords.Group keywords.By) agree_name)

agree_within : Agree sphinxql within (AreGiven AreInnerKeys)
agree_within = agree_lists AreInnerKeys (λ u (a, b, e, p, (c, d, f, q, i)). i)
    (agree_after (agree_keywords keywords.Within keywords.Group) (agree_after (agree_keywords keywords.Order keywords.By) (agree_listed (agree_sign signs.Comma) (agree_key_by agree_inner_sort))))

agree_order : Agree sphinxql order (AreGiven AreKeys)
agree_order = agree_lists AreKeys (λ u (a, b, e, p, q). q) (agree_after (agree_keywords keywords.Order keywords.By) (agree_listed (agree_sign signs.Comma) (agree_key_by agree_sort)))

-- Other parts.
agree_having : Agree sphinxql having IsHaving
agree_having = agree_as (agree_seq agree_group_sort (agree_seq agree_comparison agree_whole)) (λ x u h. (record { left = x.0; op = x.1.0; value = x.1.1 }, h)) (λ y u h. ((y.left, (y.op, y.value)), h))

agree_having_part : Agree sphinxql having_part (IsGiven IsHavingPart)
agree_having_part = agree_optional (agree_after (agree_keyword keywords.Having) agree_having)

agree_limit : Agree sphinxql limit IsLimit
agree_limit = agree_as
    (agree_after (agree_keyword keywords.Limit) (agree_seq agree_number (agree_optional (agree_after (agree_sign signs.Comma) agree_number))))
    (λ x u h. (record { first = x.0; second = x.1 }, h)) (λ y u h. ((y.first, y.second), h))

agree_field_weight : Agree sphinxql field_weight IsFieldWeight
agree_field_weight = agree_seq agree_name (agree_after (agree_sign signs.Equal) agree_number)

-- what stands before nothing stands alone
pub before_nothing : (P : List Lexeme → Type 0) (u : List Lexeme) → (P then IsAbsent) u → P u
before_nothing P u (a, b, e, p, q) = subst P (sym (e ∙ ap (λ v. a ++ v) q ∙ append-nil a)) p

pub with_nothing : (P : List Lexeme → Type 0) (u : List Lexeme) → P u → (P then IsAbsent) u
with_nothing P u p = (u, [], sym (append-nil u), p, refl)

agree_option_value : Agree sphinxql option_value IsOptionValue
agree_option_value = agree_as (agree_named OptionRow.a_name after_a_name all_options by_row) there back
  where
    by_row : (row : OptionRow) → Agree sphinxql (option_part row) (IsOptionPart row)
    by_row OptionRow.a_name = agree_seq agree_name (agree_optional (agree_enclosed agree_text))
    by_row OptionRow.a_number = agree_number
    by_row OptionRow.a_text = agree_text
    by_row OptionRow.a_list = agree_enclosed (agree_listed (agree_sign signs.Comma) agree_field_weight)

    there : (x : (row : OptionRow) × OptionParts row) (u : List Lexeme) → IsOptionPart x.0 x.1 u → (y : OptionValue) × IsOptionValue y u
    there (OptionRow.a_name, (keyword, None)) u h = (values.Name keyword, before_nothing (IsName keyword) u h)
    there (OptionRow.a_name, (keyword, Some words)) u h = (values.Call keyword words, h)
    there (OptionRow.a_number, n) u h = (values.Number n, h)
    there (OptionRow.a_text, words) u h = (values.Text words, h)
    there (OptionRow.a_list, pairs) u h = (values.List pairs, h)

    back : (y : OptionValue) (u : List Lexeme) → IsOptionValue y u → (x : (row : OptionRow) × OptionParts row) × IsOptionPart x.0 x.1 u
    back (values.Name keyword) u h = ((OptionRow.a_name, (keyword, None)), with_nothing (IsName keyword) u h)
    back (values.Number n) u h = ((OptionRow.a_number, n), h)
    back (values.Text words) u h = ((OptionRow.a_text, words), h)
    back (values.List pairs) u h = ((OptionRow.a_list, pairs), h)
    back (values.Call keyword words) u h = ((OptionRow.a_name, (keyword, Some words)), h)

agree_option : Agree sphinxql option IsOption
agree_option = agree_as (agree_seq agree_name (agree_after (agree_sign signs.Equal) agree_option_value)) (λ x u h. (record { name = x.0; value = x.1 }, h)) (λ y u h. ((y.name, y.value), h))

agree_options : Agree sphinxql options (AreGiven AreOptions)
agree_options = agree_lists AreOptions (λ u (a, b, e, p, q). q) (agree_after (agree_keyword keywords.Option) (agree_listed (agree_sign signs.Comma) agree_option))

agree_facet : Agree sphinxql facet IsFacet
agree_facet = agree_after (agree_keyword keywords.Facet) (agree_as
    (agree_seq agree_name (agree_seq (agree_optional (agree_after (agree_keywords keywords.Order keywords.By) (agree_key_by agree_group_sort))) (agree_optional agree_limit)))
    (λ x u h. (record { column = x.0; order = x.1.0; limit = x.1.1 }, h)) (λ y u h. ((y.column, (y.order, y.limit)), h)))

-- Each text of a SELECT stands for one, and what stands for one is a text.
pub agree_select : Agree sphinxql select IsSelected
agree_select = agree_as
    (agree_seq (agree_listed (agree_sign signs.Comma) agree_item)
    (agree_after (agree_keyword keywords.From)
    (agree_seq agree_name
    (agree_seq agree_conds
    (agree_seq agree_group
    (agree_seq agree_within
    (agree_seq agree_having_part
    (agree_seq agree_order
    (agree_seq (agree_optional agree_limit)
    (agree_seq agree_options (agree_row agree_facet)))))))))))
    (λ (a, (b, (c, (d, (e, (f, (g, (h, (i, j))))))))) u is. (record { items = a; index = b; conds = c; group = d; within = e; having = f; order = g; limit = h; options = i; facets = j }, is))
    (λ s u is. ((s.items, (s.index, (s.conds, (s.group, (s.within, (s.having, (s.order, (s.limit, (s.options, s.facets))))))))), is))
