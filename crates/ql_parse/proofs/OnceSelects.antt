-- The tokens of a SELECT stand for one only, line by line.
use Rattle.std.proofs.Common.{◌≡◌, ℕ, List, [], ◌∷◌, ◌++◌, Bool, true, false, Option, Some, None, ◌⊎◌, inl, inr, refl, sym, ◌∙◌, ap, subst}
use Rattle.std.specs.Prelude.{ℤ}
use Rattle.ql_lex.specs.declared.token.Sign.TheVariants as signs
use Rattle.ql_lex.specs.Tokens.{Lexeme}
use Rattle.ql_grammar.specs.declared.keyword.Keyword.{Keyword}
use Rattle.ql_grammar.specs.declared.keyword.Keyword.TheVariants as keywords
use Rattle.ql_tree.specs.declared.select.Comparison.{Comparison}
use Rattle.ql_tree.specs.declared.select.Cond.{Cond}
use Rattle.ql_tree.specs.declared.select.Cond.TheVariants as condition
use Rattle.ql_tree.specs.declared.select.FacetPart.{FacetPart}
use Rattle.ql_tree.specs.declared.select.Having.{Having}
use Rattle.ql_tree.specs.declared.select.LimitPart.{LimitPart}
use Rattle.ql_tree.specs.declared.select.OptionValue.{OptionValue}
use Rattle.ql_tree.specs.declared.select.OptionValue.TheVariants as values
use Rattle.ql_tree.specs.declared.select.Select.{Select}
use Rattle.ql_tree.specs.declared.select.SelectExpr.{SelectExpr}
use Rattle.ql_tree.specs.declared.select.SelectExpr.TheVariants as exprs
use Rattle.ql_tree.specs.declared.select.SelectItem.{SelectItem}
use Rattle.ql_tree.specs.declared.select.SelectItem.TheVariants as items
use Rattle.ql_tree.specs.declared.select.SelectOption.{SelectOption}
use Rattle.ql_tree.specs.declared.select.SortKey.{SortKey}
use Rattle.ql_tree.specs.declared.select.SortName.{SortName}
use Rattle.ql_tree.specs.declared.select.SortName.TheVariants as sorts
use Rattle.ql_grammar.specs.Classes.{Class, the_keyword, the_sign}
use Rattle.token_grammar.specs.Language.{Re}
use Rattle.ql_grammar.specs.Terminals.{keyword, name, enclosed}
use Rattle.ql_grammar.specs.steps.Grammar.{weight, count, counted, expr, alias, item, cond, test, direction, having, limit, field_weight, option_value, option, facet, conds, group, within, having_part, order, options, select}
use Rattle.token_grammar.specs.Language.{◌⨾◌, ◌∣◌}
use Rattle.ql_grammar.specs.Parts.{IsKeyword, IsSign, IsName, IsText, IsEnclosed}
use Rattle.token_grammar.specs.Values.{◌then◌, IsGiven, AreGiven}
use Rattle.ql_grammar.specs.steps.GoingOn.{item_goes_on, key_goes_on, facet_goes_on, select_goes_on}
use Rattle.ql_grammar.specs.Selects.{IsExpr, IsAlias, IsItem, IsCond, IsWeight, IsCount, IsSort, IsInnerSort, IsGroupSort, IsDirection, IsKeyBy, IsHaving, IsLimit, IsFieldWeight, IsOptionValue, IsOption, IsFacet, AreConds, IsGroup, AreInnerKeys, IsHavingPart, AreKeys, AreOptions, IsSelected}
use Rattle.ql_grammar.specs.steps.Selecting.{IsCounted}
use Rattle.token_grammar.proofs.Agreement.{IsEither}
use Rattle.token_grammar.proofs.Once.{Once, IsOnce, once_as, once_after, once_seq, once_wider}
use Rattle.token_grammar.proofs.OnceChoices.{once_either, once_listed, once_lists, once_optional, once_or, once_perhaps, once_row, parted_two}
use Rattle.ql_parse.proofs.OnceParts.{once_comparison, once_enclosed, once_name, once_number, once_parens, once_sign, once_text, once_whole, once_wholes, once_keyword, once_keywords}
use Rattle.token_grammar.proofs.NamedChoices.{AreParted, once_named, parted_firsts}
use Rattle.ql_grammar.proofs.SelectAgreement.{with_nothing}
use Rattle.ql_grammar.proofs.SelectRows.{ExprRow, ExprValue, IsExprPart, after_count, expr_part, all_exprs, TestRow, TestValue, IsTest, AreWholes, after_between, test_part, all_tests, SortRow, SortValue, IsSortPart, after_weight, sort_part, all_sorts, OptionRow, OptionParts, IsOptionPart, after_a_name, option_part, all_options}
use Rattle.ql_grammar.specs.Alphabet.{sphinxql}

-- a name may go on as a call
abbrev opens : List Class
opens = the_sign signs.OpenParen ∷ []

-- Expressions and items.
once_counted : Once sphinxql counted [] IsCounted
once_counted = once_as (once_either (once_sign signs.Star) (once_after (once_keyword keywords.Distinct) once_name refl) refl refl refl) value back
  where
    value : Unit {0} ⊎ List ℕ → Option (List ℕ)
    value (inl _) = None
    value (inr column) = Some column

    back : (y : Option (List ℕ)) (u : List Lexeme) → IsCounted y u → (x : Unit {0} ⊎ List ℕ) × IsEither (λ _. IsSign signs.Star) (λ column. IsKeyword keywords.Distinct then IsName column) x u × (value x ≡ y)
    back None u h = (inl tt, h, refl)
    back (Some column) u h = (inr column, h, refl)

once_argument : (w : Keyword) → Once sphinxql (keyword w ⨾ enclosed name) [] (λ column. IsKeyword w then IsEnclosed (IsName column))
once_argument w = once_after (once_keyword w) (once_enclosed once_name refl) refl

once_weight : IsOnce sphinxql weight [] IsWeight
once_weight = once_after (once_keyword keywords.Weight) once_parens refl

once_count : IsOnce sphinxql count [] IsCount
once_count = once_after (once_keyword keywords.Count) (once_enclosed (once_sign signs.Star) refl) refl

once_expr : Once sphinxql expr opens IsExpr
once_expr = once_as (once_named ExprRow.count after_count all_exprs all_apart by_row) value back
  where
    all_apart : AreParted sphinxql opens expr_part ExprRow.count after_count
    all_apart = (parted_two refl refl, (parted_two refl refl, (parted_two refl refl, (parted_two refl refl, (parted_two refl refl, (parted_two refl refl, tt))))))

    by_row : (row : ExprRow) → Once sphinxql (expr_part row) opens (IsExprPart row)
    by_row ExprRow.count = once_wider (once_after (once_keyword keywords.Count) (once_enclosed once_counted refl) refl) refl
    by_row ExprRow.least = once_wider (once_argument keywords.Min) refl
    by_row ExprRow.greatest = once_wider (once_argument keywords.Max) refl
    by_row ExprRow.sum = once_wider (once_argument keywords.Sum) refl
    by_row ExprRow.weight = once_wider once_weight refl
    by_row ExprRow.group_by = once_wider (once_after (once_keyword keywords.GroupBy) once_parens refl) refl
    by_row ExprRow.column = once_wider once_name refl

    value : (row : ExprRow) × ExprValue row → SelectExpr
    value (ExprRow.count, None) = exprs.CountAll
    value (ExprRow.count, Some column) = exprs.CountDistinct column
    value (ExprRow.least, column) = exprs.Least column
    value (ExprRow.greatest, column) = exprs.Greatest column
    value (ExprRow.sum, column) = exprs.Sum column
    value (ExprRow.weight, _) = exprs.Weight
    value (ExprRow.group_by, _) = exprs.GroupBy
    value (ExprRow.column, column) = exprs.Column column

    back : (y : SelectExpr) (u : List Lexeme) → IsExpr y u → (x : (row : ExprRow) × ExprValue row) × IsExprPart x.0 x.1 u × (value x ≡ y)
    back exprs.CountAll u h = ((ExprRow.count, None), h, refl)
    back (exprs.CountDistinct column) u h = ((ExprRow.count, Some column), h, refl)
    back (exprs.Least column) u h = ((ExprRow.least, column), h, refl)
    back (exprs.Greatest column) u h = ((ExprRow.greatest, column), h, refl)
    back (exprs.Sum column) u h = ((ExprRow.sum, column), h, refl)
    back exprs.Weight u h = ((ExprRow.weight, tt), h, refl)
    back exprs.GroupBy u h = ((ExprRow.group_by, tt), h, refl)
    back (exprs.Column column) u h = ((ExprRow.column, column), h, refl)

once_alias : Once sphinxql alias [] IsAlias
once_alias = once_after (once_perhaps (once_keyword keywords.As) refl) once_name refl

once_item : Once sphinxql item item_goes_on IsItem
once_item = once_wider (once_as (once_either (once_sign signs.Star) (once_seq once_expr (once_optional once_alias refl) refl) refl refl refl) value back) refl
  where
    Is : Unit {0} ⊎ SelectExpr × Option (List ℕ) → List Lexeme → Type 0
    Is = IsEither (λ _. IsSign signs.Star) (λ x. IsExpr x.0 then IsGiven IsAlias x.1)

    value : Unit {0} ⊎ SelectExpr × Option (List ℕ) → SelectItem
    value (inl _) = items.All
    value (inr x) = items.One x.0 x.1

    back : (y : SelectItem) (u : List Lexeme) → IsItem y u → (x : Unit {0} ⊎ SelectExpr × Option (List ℕ)) × Is x u × (value x ≡ y)
    back items.All u h = (inl tt, h, refl)
    back (items.One e a) u h = (inr (e, a), h, refl)

-- Conditions.
once_test : Once sphinxql test [] (λ (x : (row : TestRow) × TestValue row). IsTest x.0 x.1)
once_test = once_named TestRow.between after_between all_tests (parted_firsts sphinxql [] test_part TestRow.between after_between refl) by_row
  where
    by_row : (row : TestRow) → Once sphinxql (test_part row) [] (IsTest row)
    by_row TestRow.between = once_after (once_keyword keywords.Between) (once_seq once_whole (once_after (once_keyword keywords.And) once_whole refl) refl) refl
    by_row TestRow.not_among = once_after (once_keyword keywords.Not) (once_after (once_keyword keywords.In) once_wholes refl) refl
    by_row TestRow.among = once_after (once_keyword keywords.In) once_wholes refl
    by_row TestRow.compare = once_seq once_comparison once_whole refl

once_cond : Once sphinxql cond [] IsCond
once_cond = once_as (once_either (once_after (once_keyword keywords.Match) (once_enclosed once_text refl) refl) (once_seq once_name once_test refl) refl refl refl) value back
  where
    Value : Type 0
    Value = List ℕ ⊎ List ℕ × ((row : TestRow) × TestValue row)

    Is : Value → List Lexeme → Type 0
    Is = IsEither (λ query. IsKeyword keywords.Match then IsEnclosed (IsText query)) (λ x. IsName x.0 then IsTest x.1.0 x.1.1)

    value : Value → Cond
    value (inl query) = condition.Match query
    value (inr (column, (TestRow.between, (low, high)))) = condition.Between column low high
    value (inr (column, (TestRow.not_among, numbers))) = condition.Among column numbers true
    value (inr (column, (TestRow.among, numbers))) = condition.Among column numbers false
    value (inr (column, (TestRow.compare, (op, z)))) = condition.Compare column op z

    back : (y : Cond) (u : List Lexeme) → IsCond y u → (x : Value) × Is x u × (value x ≡ y)
    back (condition.Match query) u h = (inl query, h, refl)
    back (condition.Between column low high) u h = (inr (column, (TestRow.between, (low, high))), h, refl)
    back (condition.Among column numbers true) u h = (inr (column, (TestRow.not_among, numbers)), h, refl)
    back (condition.Among column numbers false) u (a, b, e, p, (c, d, f, g, q)) =
        (inr (column, (TestRow.among, numbers)), (a, b, e, p, subst (λ v. (IsKeyword keywords.In then AreWholes numbers) v) (sym (f ∙ ap (λ v. v ++ d) g)) q), refl)
    back (condition.Compare column op z) u h = (inr (column, (TestRow.compare, (op, z))), h, refl)

once_conds : Once sphinxql conds (the_keyword keywords.Where ∷ the_keyword keywords.And ∷ []) (AreGiven AreConds)
once_conds = once_lists AreConds (once_after (once_keyword keywords.Where) (once_listed (once_keyword keywords.And) once_cond refl refl) refl) refl

-- Sorting.
once_sort : Once sphinxql (weight ∣ count ∣ name) opens IsSort
once_sort = once_as (once_named SortRow.weight after_weight all_sorts (parted_two refl refl, (parted_two refl refl, tt)) by_row) value back
  where
    by_row : (row : SortRow) → Once sphinxql (sort_part row) opens (IsSortPart row)
    by_row SortRow.weight = once_wider once_weight refl
    by_row SortRow.count = once_wider once_count refl
    by_row SortRow.column = once_wider once_name refl

    value : (row : SortRow) × SortValue row → SortName
    value (SortRow.weight, _) = sorts.Weight
    value (SortRow.count, _) = sorts.CountAll
    value (SortRow.column, column) = sorts.Column column

    back : (y : SortName) (u : List Lexeme) → IsSort y u → (x : (row : SortRow) × SortValue row) × IsSortPart x.0 x.1 u × (value x ≡ y)
    back sorts.Weight u h = ((SortRow.weight, tt), h, refl)
    back sorts.CountAll u h = ((SortRow.count, tt), h, refl)
    back (sorts.Column column) u h = ((SortRow.column, column), h, refl)

once_inner_sort : Once sphinxql (weight ∣ name) opens IsInnerSort
once_inner_sort = once_as (once_or opens once_weight once_name (parted_two refl refl)) value back
  where
    value : Unit {0} ⊎ List ℕ → SortName
    value (inl _) = sorts.Weight
    value (inr column) = sorts.Column column

    back : (y : SortName) (u : List Lexeme) → IsInnerSort y u → (x : Unit {0} ⊎ List ℕ) × IsEither (λ _. IsWeight) IsName x u × (value x ≡ y)
    back sorts.Weight u h = (inl tt, h, refl)
    back sorts.CountAll u h = absurd h
    back (sorts.Column column) u h = (inr column, h, refl)

once_group_sort : Once sphinxql (count ∣ name) opens IsGroupSort
once_group_sort = once_as (once_or opens once_count once_name (parted_two refl refl)) value back
  where
    value : Unit {0} ⊎ List ℕ → SortName
    value (inl _) = sorts.CountAll
    value (inr column) = sorts.Column column

    back : (y : SortName) (u : List Lexeme) → IsGroupSort y u → (x : Unit {0} ⊎ List ℕ) × IsEither (λ _. IsCount) IsName x u × (value x ≡ y)
    back sorts.Weight u h = absurd h
    back sorts.CountAll u h = (inl tt, h, refl)
    back (sorts.Column column) u h = (inr column, h, refl)

once_direction : Once sphinxql direction (the_keyword keywords.Asc ∷ the_keyword keywords.Desc ∷ []) (IsGiven IsDirection)
once_direction = once_optional (once_as (once_either (once_keyword keywords.Asc) (once_keyword keywords.Desc) refl refl refl) value back) refl
  where
    value : Unit {0} ⊎ Unit {0} → Bool
    value (inl _) = false
    value (inr _) = true

    back : (y : Bool) (u : List Lexeme) → IsDirection y u → (x : Unit {0} ⊎ Unit {0}) × IsEither (λ _. IsKeyword keywords.Asc) (λ _. IsKeyword keywords.Desc) x u × (value x ≡ y)
    back false u h = (inl tt, h, refl)
    back true u h = (inr tt, h, refl)

once_key_by : {r : Re Class} {Is : SortName → List Lexeme → Type 0} → Once sphinxql r opens Is → Once sphinxql (r ⨾ direction) key_goes_on (IsKeyBy Is)
once_key_by h = once_as (once_seq h once_direction refl) value (λ y u i. ((y.by, y.descending), i, refl))
  where
    value : SortName × Option Bool → SortKey
    value x = record { by = x.0; descending = x.1 }

once_group : Once sphinxql group (the_keyword keywords.Group ∷ []) (IsGiven IsGroup)
once_group = once_optional (once_after (once_keywords keywords.Group keywords.By) once_name refl) refl

once_within : Once sphinxql within (the_keyword keywords.Within ∷ the_sign signs.Comma ∷ key_goes_on) (AreGiven AreInnerKeys)
once_within = once_wider (once_lists AreInnerKeys
    (once_after (once_keywords keywords.Within keywords.Group) (once_after (once_keywords keywords.Order keywords.By) (once_listed (once_sign signs.Comma) (once_key_by once_inner_sort) refl refl) refl) refl) refl) refl

once_order : Once sphinxql order (the_keyword keywords.Order ∷ the_sign signs.Comma ∷ key_goes_on) (AreGiven AreKeys)
once_order = once_wider (once_lists AreKeys
    (once_after (once_keywords keywords.Order keywords.By) (once_listed (once_sign signs.Comma) (once_key_by once_sort) refl refl) refl) refl) refl

-- Other parts.
once_having : Once sphinxql having [] IsHaving
once_having = once_as (once_seq once_group_sort (once_seq once_comparison once_whole refl) refl) value (λ y u h. ((y.left, (y.op, y.value)), h, refl))
  where
    value : SortName × (Comparison × ℤ) → Having
    value x = record { left = x.0; op = x.1.0; value = x.1.1 }

once_having_part : Once sphinxql having_part (the_keyword keywords.Having ∷ []) (IsGiven IsHavingPart)
once_having_part = once_optional (once_after (once_keyword keywords.Having) once_having refl) refl

once_limit : Once sphinxql limit (the_sign signs.Comma ∷ []) IsLimit
once_limit = once_as
    (once_after (once_keyword keywords.Limit) (once_seq once_number (once_optional (once_after (once_sign signs.Comma) once_number refl) refl) refl) refl)
    value (λ y u h. ((y.first, y.second), h, refl))
  where
    value : ℕ × Option ℕ → LimitPart
    value x = record { first = x.0; second = x.1 }

once_field_weight : Once sphinxql field_weight [] IsFieldWeight
once_field_weight = once_seq once_name (once_after (once_sign signs.Equal) once_number refl) refl

once_option_value : Once sphinxql option_value opens IsOptionValue
once_option_value = once_as
    (once_named OptionRow.a_name after_a_name all_options (parted_firsts sphinxql opens option_part OptionRow.a_name after_a_name refl) by_row)
    value back
  where
    by_row : (row : OptionRow) → Once sphinxql (option_part row) opens (IsOptionPart row)
    by_row OptionRow.a_name = once_seq once_name (once_optional (once_enclosed once_text refl) refl) refl
    by_row OptionRow.a_number = once_wider once_number refl
    by_row OptionRow.a_text = once_wider once_text refl
    by_row OptionRow.a_list = once_wider (once_enclosed (once_listed (once_sign signs.Comma) once_field_weight refl refl) refl) refl

    value : (row : OptionRow) × OptionParts row → OptionValue
    value (OptionRow.a_name, (keyword, None)) = values.Name keyword
    value (OptionRow.a_name, (keyword, Some words)) = values.Call keyword words
    value (OptionRow.a_number, n) = values.Number n
    value (OptionRow.a_text, words) = values.Text words
    value (OptionRow.a_list, pairs) = values.List pairs

    back : (y : OptionValue) (u : List Lexeme) → IsOptionValue y u → (x : (row : OptionRow) × OptionParts row) × IsOptionPart x.0 x.1 u × (value x ≡ y)
    back (values.Name keyword) u h = ((OptionRow.a_name, (keyword, None)), with_nothing (IsName keyword) u h, refl)
    back (values.Number n) u h = ((OptionRow.a_number, n), h, refl)
    back (values.Text words) u h = ((OptionRow.a_text, words), h, refl)
    back (values.List pairs) u h = ((OptionRow.a_list, pairs), h, refl)
    back (values.Call keyword words) u h = ((OptionRow.a_name, (keyword, Some words)), h, refl)

once_option : Once sphinxql option opens IsOption
once_option = once_as (once_seq once_name (once_after (once_sign signs.Equal) once_option_value refl) refl) value (λ y u h. ((y.name, y.value), h, refl))
  where
    value : List ℕ × OptionValue → SelectOption
    value x = record { name = x.0; value = x.1 }

once_options : Once sphinxql options (the_keyword keywords.Option ∷ the_sign signs.Comma ∷ opens) (AreGiven AreOptions)
once_options = once_wider (once_lists AreOptions
    (once_after (once_keyword keywords.Option) (once_listed (once_sign signs.Comma) once_option refl refl) refl) refl) refl

once_facet : Once sphinxql facet facet_goes_on IsFacet
once_facet = once_after (once_keyword keywords.Facet) (once_as
    (once_seq once_name (once_seq (once_optional (once_after (once_keywords keywords.Order keywords.By) (once_key_by once_group_sort) refl) refl) (once_optional once_limit refl) refl) refl)
    value (λ y u h. ((y.column, (y.order, y.limit)), h, refl))) refl
  where
    value : List ℕ × (Option SortKey × Option LimitPart) → FacetPart
    value x = record { column = x.0; order = x.1.0; limit = x.1.1 }

abbrev SelectParts : Type 0
SelectParts =
    List SelectItem × (List ℕ × (List Cond × (Option (List ℕ) × (List SortKey × (Option Having × (List SortKey × (Option LimitPart × (List SelectOption × List FacetPart))))))))

-- The tokens of a SELECT stand for one.
pub once_select : Once sphinxql select select_goes_on IsSelected
once_select = once_wider (once_as
    (once_seq (once_listed (once_sign signs.Comma) once_item refl refl)
    (once_after (once_keyword keywords.From)
    (once_seq once_name
    (once_seq once_conds
    (once_seq once_group
    (once_seq once_within
    (once_seq once_having_part
    (once_seq once_order
    (once_seq (once_optional once_limit refl)
    (once_seq once_options (once_row once_facet refl refl)
    refl) refl) refl) refl) refl) refl) refl) refl) refl) refl)
    value
    (λ s u is. ((s.items, (s.index, (s.conds, (s.group, (s.within, (s.having, (s.order, (s.limit, (s.options, s.facets))))))))), is, refl))) refl
  where
    value : SelectParts → Select
    value (a, (b, (c, (d, (e, (f, (g, (h, (i, j))))))))) = record { items = a; index = b; conds = c; group = d; within = e; having = f; order = g; limit = h; options = i; facets = j }
