-- The parts of a SELECT are read from what they are written as.
use Rattle.std.proofs.Common.{◌≡◌, ℕ, Bool, true, false, List, [], ◌∷◌, ◌++◌, inl, sym, subst, append_assoc}
use Rattle.ql_lex.specs.declared.token.Sign.TheVariants as signs
use Rattle.ql_lex.specs.Tokens.{Lexeme}
use Rattle.ql_grammar.specs.declared.keyword.Keyword.{Keyword}
use Rattle.ql_grammar.specs.declared.keyword.Keyword.TheVariants as keywords
use Rattle.ql_tree.specs.declared.select.Cond.{Cond}
use Rattle.ql_tree.specs.declared.select.Cond.TheVariants as conds
use Rattle.ql_tree.specs.declared.select.FacetPart.{FacetPart}
use Rattle.ql_tree.specs.declared.select.Having.{Having}
use Rattle.ql_tree.specs.declared.select.LimitPart.{LimitPart}
use Rattle.ql_tree.specs.declared.select.OptionValue.{OptionValue}
use Rattle.ql_tree.specs.declared.select.OptionValue.TheVariants as values
use Rattle.ql_tree.specs.declared.select.Select.{Select}
use Rattle.ql_tree.specs.declared.select.SelectExpr.{SelectExpr}
use Rattle.ql_tree.specs.declared.select.SelectExpr.TheVariants as exprs
use Rattle.ql_tree.specs.declared.select.SelectItem.{SelectItem}
use Rattle.ql_tree.specs.declared.select.SelectItem.TheVariants as items
use Rattle.ql_tree.specs.declared.select.SelectOption.{SelectOption}
use Rattle.ql_tree.specs.declared.select.SortKey.{SortKey}
use Rattle.ql_tree.specs.declared.select.SortName.{SortName}
use Rattle.ql_tree.specs.declared.select.SortName.TheVariants as sorts
use Rattle.ql_grammar.specs.Parts.{IsKeyword, AreKeywords, IsComma}
use Rattle.token_grammar.specs.Values.{◌then◌, IsPerhaps, AreListed}
use Rattle.ql_write.specs.Pieces.{Piece, keyword, name, with_commas, given, given_all, in_row}
use Rattle.ql_grammar.specs.Selects.{IsExpr, IsAlias, IsItem, IsNegation, IsCond, IsWeight, IsCount, IsSort, IsInnerSort, IsGroupSort, IsDirection, IsKeyBy, IsSecond, IsLimit, IsFieldWeight, IsOptionValue, IsOption, IsFacetOrder, IsFacet, AreConds, IsGroup, AreInnerKeys, IsHavingPart, AreKeys, AreOptions, IsSelect, comparison_sign}
use Rattle.ql_write.specs.Canonical.{count_all, weight, expr, alias_pieces, item, negation, cond, sort_name, direction, sort_key, ordered, having_pieces, second_number, limit_pieces, field_weight, option_value, option, facet_order, facet, where_pieces, group_pieces, within_pieces, option_pieces, select_pieces}
use Rattle.ql_write.proofs.CanonicalPieces.{fits, word_fits}
use Rattle.ql_write.proofs.CanonicalParts.{Stays, word_back, stays_then, stays_absent, stays_given, stays_given_all, stays_in_row, stays_listed, stays_with_commas, stays_word, stays_words, stays_sign, stays_name, stays_number, stays_text, stays_whole, stays_enclosed, stays_parens}

-- a keyword that may be left out is written
stays_perhaps_word : (w : Keyword) → Stays (IsPerhaps (IsKeyword w)) (keyword w ∷ [])
stays_perhaps_word w = record {
  fit = λ u good p. (fits (keyword w) (word_fits w), tt);
  is = λ u good p v s. inl (word_back w v s);
}

stays_never : (ps : List Piece) → Stays (λ (u : List Lexeme). ⊥) ps
stays_never ps = record { fit = λ u good p. absurd p; is = λ u good p v s. absurd p }

stays_count : Stays IsCount count_all
stays_count = stays_then (stays_word keywords.Count) (stays_enclosed (stays_sign signs.Star))

stays_weight : Stays IsWeight weight
stays_weight = stays_then (stays_word keywords.Weight) stays_parens

stays_expr : (e : SelectExpr) → Stays (IsExpr e) (expr e)
stays_expr (exprs.Column bytes) = stays_name bytes
stays_expr exprs.CountAll = stays_count
stays_expr (exprs.CountDistinct bytes) = stays_then (stays_word keywords.Count) (stays_enclosed (stays_then (stays_word keywords.Distinct) (stays_name bytes)))
stays_expr (exprs.Least bytes) = stays_then (stays_word keywords.Min) (stays_enclosed (stays_name bytes))
stays_expr (exprs.Greatest bytes) = stays_then (stays_word keywords.Max) (stays_enclosed (stays_name bytes))
stays_expr (exprs.Sum bytes) = stays_then (stays_word keywords.Sum) (stays_enclosed (stays_name bytes))
stays_expr exprs.Weight = stays_weight
stays_expr exprs.GroupBy = stays_then (stays_word keywords.GroupBy) stays_parens

stays_alias : (bytes : List ℕ) → Stays (IsAlias bytes) (alias_pieces bytes)
stays_alias bytes = stays_then (stays_perhaps_word keywords.As) (stays_name bytes)

stays_item : (i : SelectItem) → Stays (IsItem i) (item i)
stays_item items.All = stays_sign signs.Star
stays_item (items.One e alias) = stays_then (stays_expr e) (stays_given stays_alias alias)

stays_negation : (negated : Bool) → Stays (IsNegation negated) (negation negated)
stays_negation true = stays_word keywords.Not
stays_negation false = stays_absent

stays_cond : (c : Cond) → Stays (IsCond c) (cond c)
stays_cond (conds.Match bytes) = stays_then (stays_word keywords.Match) (stays_enclosed (stays_text bytes))
stays_cond (conds.Compare bytes op value) = stays_then (stays_name bytes) (stays_then (stays_sign (comparison_sign op)) (stays_whole value))
stays_cond (conds.Among bytes list negated) = stays_then (stays_name bytes) (stays_then (stays_negation negated) (stays_then (stays_word keywords.In) (stays_enclosed (stays_with_commas stays_whole list))))
stays_cond (conds.Between bytes low high) = stays_then (stays_name bytes) (stays_then (stays_word keywords.Between) (stays_then (stays_whole low) (stays_then (stays_word keywords.And) (stays_whole high))))

stays_sort : (s : SortName) → Stays (IsSort s) (sort_name s)
stays_sort (sorts.Column bytes) = stays_name bytes
stays_sort sorts.Weight = stays_weight
stays_sort sorts.CountAll = stays_count

stays_inner_sort : (s : SortName) → Stays (IsInnerSort s) (sort_name s)
stays_inner_sort (sorts.Column bytes) = stays_name bytes
stays_inner_sort sorts.Weight = stays_weight
stays_inner_sort sorts.CountAll = stays_never count_all

stays_group_sort : (s : SortName) → Stays (IsGroupSort s) (sort_name s)
stays_group_sort (sorts.Column bytes) = stays_name bytes
stays_group_sort sorts.Weight = stays_never weight
stays_group_sort sorts.CountAll = stays_count

stays_direction : (descending : Bool) → Stays (IsDirection descending) (direction descending)
stays_direction false = stays_word keywords.Asc
stays_direction true = stays_word keywords.Desc

stays_key_by : {Is : SortName → List Lexeme → Type 0} → ((s : SortName) → Stays (Is s) (sort_name s)) → (key : SortKey) → Stays (IsKeyBy Is key) (sort_key key)
stays_key_by each key = stays_then (each key.by) (stays_given stays_direction key.descending)

stays_order : {Is : SortName → List Lexeme → Type 0} → ((s : SortName) → Stays (Is s) (sort_name s)) → (keys : List SortKey) → Stays (AreKeywords keywords.Order keywords.By then AreListed IsComma (IsKeyBy Is) keys) (ordered keys)
stays_order each keys = stays_then (stays_words keywords.Order keywords.By) (stays_with_commas (stays_key_by each) keys)

stays_keys : (keys : List SortKey) → Stays (AreKeys keys) (ordered keys)
stays_keys keys = stays_order stays_sort keys

stays_inner_keys : (keys : List SortKey) → Stays (AreInnerKeys keys) (within_pieces keys)
stays_inner_keys keys = stays_then (stays_words keywords.Within keywords.Group) (stays_order stays_inner_sort keys)

stays_having : (h : Having) → Stays (IsHavingPart h) (having_pieces h)
stays_having h = stays_then (stays_word keywords.Having) (stays_then (stays_group_sort h.left) (stays_then (stays_sign (comparison_sign h.op)) (stays_whole h.value)))

stays_second : (n : ℕ) → Stays (IsSecond n) (second_number n)
stays_second n = stays_then (stays_sign signs.Comma) (stays_number n)

stays_limit : (l : LimitPart) → Stays (IsLimit l) (limit_pieces l)
stays_limit l = stays_then (stays_word keywords.Limit) (stays_then (stays_number l.first) (stays_given stays_second l.second))

stays_field_weight : (pair : List ℕ × ℕ) → Stays (IsFieldWeight pair) (field_weight pair)
stays_field_weight pair = stays_then (stays_name pair.0) (stays_then (stays_sign signs.Equal) (stays_number pair.1))

stays_option_value : (v : OptionValue) → Stays (IsOptionValue v) (option_value v)
stays_option_value (values.Name bytes) = stays_name bytes
stays_option_value (values.Number n) = stays_number n
stays_option_value (values.Text bytes) = stays_text bytes
stays_option_value (values.List pairs) = stays_enclosed (stays_with_commas stays_field_weight pairs)
stays_option_value (values.Call bytes argument) = stays_then (stays_name bytes) (stays_enclosed (stays_text argument))

stays_option : (o : SelectOption) → Stays (IsOption o) (option o)
stays_option o = stays_then (stays_name o.name) (stays_then (stays_sign signs.Equal) (stays_option_value o.value))

stays_facet_order : (key : SortKey) → Stays (IsFacetOrder key) (facet_order key)
stays_facet_order key = stays_then (stays_words keywords.Order keywords.By) (stays_key_by stays_group_sort key)

stays_facet : (f : FacetPart) → Stays (IsFacet f) (facet f)
stays_facet f = stays_then (stays_word keywords.Facet) (stays_then (stays_name f.column) (stays_then (stays_given stays_facet_order f.order) (stays_given stays_limit f.limit)))

stays_conds : (list : List Cond) → Stays (AreConds list) (where_pieces list)
stays_conds list = stays_then (stays_word keywords.Where) (stays_listed (stays_word keywords.And) stays_cond list)

stays_group : (bytes : List ℕ) → Stays (IsGroup bytes) (group_pieces bytes)
stays_group bytes = stays_then (stays_words keywords.Group keywords.By) (stays_name bytes)

stays_options : (list : List SelectOption) → Stays (AreOptions list) (option_pieces list)
stays_options list = stays_then (stays_word keywords.Option) (stays_with_commas stays_option list)

regrouped : (a f n : Piece) (i c g w h o l p t : List Piece) → a ∷ i ++ f ∷ n ∷ c ++ g ++ w ++ h ++ o ++ l ++ p ++ t ≡ a ∷ (i ++ (f ∷ n ∷ (c ++ (g ++ (w ++ (h ++ (o ++ (l ++ (p ++ t)))))))))
regrouped a f n i c g w h o l p t = simp append_assoc

pub stays_select : (s : Select) → Stays (IsSelect s) (select_pieces s)
stays_select s =
    subst (λ ps. Stays (IsSelect s) ps)
    (sym (regrouped (keyword keywords.Select) (keyword keywords.From) (name s.index) (with_commas item s.items) (given_all where_pieces s.conds) (given group_pieces s.group) (given_all within_pieces s.within) (given having_pieces s.having) (given_all ordered s.order) (given limit_pieces s.limit) (given_all option_pieces s.options) (in_row facet s.facets)))
    (stays_then (stays_word keywords.Select) (stays_then (stays_with_commas stays_item s.items)
    (stays_then (stays_word keywords.From) (stays_then (stays_name s.index)
    (stays_then (stays_given_all stays_conds s.conds)
    (stays_then (stays_given stays_group s.group)
    (stays_then (stays_given_all stays_inner_keys s.within)
    (stays_then (stays_given stays_having s.having)
    (stays_then (stays_given_all stays_keys s.order)
    (stays_then (stays_given stays_limit s.limit)
    (stays_then (stays_given_all stays_options s.options) (stays_in_row stays_facet s.facets))))))))))))
