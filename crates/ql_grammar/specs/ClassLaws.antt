-- The tests of classes are right. These are proofs: nothing in them has to be believed.
use Rattle.std.proofs.Common.{◌≡◌, ℕ, List, [], true, false, refl, sym, ◌∙◌, ap}
use Rattle.std.specs.Prelude.{codes, not, ◌&&◌}
use Rattle.std.proofs.lemmas.Bool.{eqb-true, eq-eqb}
use Rattle.name_table.specs.NamedValues.{value_named}
use Rattle.token_grammar.proofs.Bools.{and_first, clash}
use Rattle.ql_lex.specs.declared.token.Sign.{Sign}
use Rattle.ql_lex.specs.declared.token.Sign.TheVariants as signs
use Rattle.ql_lex.specs.declared.token.TokenKind.{TokenKind}
use Rattle.ql_lex.specs.declared.token.TokenKind.TheVariants as forms
use Rattle.ql_lex.specs.Tokens.{Lexeme}
use Rattle.ql_grammar.specs.declared.keyword.Keyword.{Keyword}
use Rattle.ql_grammar.specs.declared.keyword.Keyword.TheVariants as keywords
use Rattle.ql_grammar.specs.declared.kind.Kind.{Kind}
use Rattle.ql_grammar.specs.declared.kind.Kind.TheVariants as kinds
use Rattle.ql_grammar.specs.Keywords.{is_reserved, keyword_named, keyword_number}
use Rattle.ql_grammar.specs.Tokens.{kind, kind_by}
use Rattle.ql_grammar.specs.Classes.{Class, the_keyword, any_name, name_but, a_number, a_text, a_sysvar, the_sign, a_comparison, the_end, fits, is_name, is_keyword, is_comparison, meets, sign_number, within}
use Rattle.ql_grammar.specs.KeywordLaws.{keyword_same, same_to_itself}
use Rattle.ql_grammar.specs.SignLaws.{sign_same}

never : {A : Type 0} → false ≡ true → A
never e = absurd (clash false e refl)

abbrev token : TokenKind → List ℕ → Lexeme
token form text = record { kind = form; text = text; at = 0 }

some_keyword : (w : Keyword) → (t : Lexeme) × (kind t ≡ kinds.Keyword w)
unfolding kind_by keyword_named value_named
some_keyword keywords.And = (token forms.Name (codes "and"), refl)
some_keyword keywords.As = (token forms.Name (codes "as"), refl)
some_keyword keywords.Asc = (token forms.Name (codes "asc"), refl)
some_keyword keywords.Autocommit = (token forms.Name (codes "autocommit"), refl)
some_keyword keywords.Begin = (token forms.Name (codes "begin"), refl)
some_keyword keywords.Between = (token forms.Name (codes "between"), refl)
some_keyword keywords.By = (token forms.Name (codes "by"), refl)
some_keyword keywords.Commit = (token forms.Name (codes "commit"), refl)
some_keyword keywords.Count = (token forms.Name (codes "count"), refl)
some_keyword keywords.Database = (token forms.Name (codes "database"), refl)
some_keyword keywords.Databases = (token forms.Name (codes "databases"), refl)
some_keyword keywords.Delete = (token forms.Name (codes "delete"), refl)
some_keyword keywords.Desc = (token forms.Name (codes "desc"), refl)
some_keyword keywords.Describe = (token forms.Name (codes "describe"), refl)
some_keyword keywords.Distinct = (token forms.Name (codes "distinct"), refl)
some_keyword keywords.Facet = (token forms.Name (codes "facet"), refl)
some_keyword keywords.Flush = (token forms.Name (codes "flush"), refl)
some_keyword keywords.From = (token forms.Name (codes "from"), refl)
some_keyword keywords.Global = (token forms.Name (codes "global"), refl)
some_keyword keywords.Group = (token forms.Name (codes "group"), refl)
some_keyword keywords.GroupBy = (token forms.Name (codes "groupby"), refl)
some_keyword keywords.Having = (token forms.Name (codes "having"), refl)
some_keyword keywords.Id = (token forms.Name (codes "id"), refl)
some_keyword keywords.In = (token forms.Name (codes "in"), refl)
some_keyword keywords.Index = (token forms.Name (codes "index"), refl)
some_keyword keywords.Insert = (token forms.Name (codes "insert"), refl)
some_keyword keywords.Into = (token forms.Name (codes "into"), refl)
some_keyword keywords.Limit = (token forms.Name (codes "limit"), refl)
some_keyword keywords.Match = (token forms.Name (codes "match"), refl)
some_keyword keywords.Max = (token forms.Name (codes "max"), refl)
some_keyword keywords.Meta = (token forms.Name (codes "meta"), refl)
some_keyword keywords.Min = (token forms.Name (codes "min"), refl)
some_keyword keywords.Names = (token forms.Name (codes "names"), refl)
some_keyword keywords.Not = (token forms.Name (codes "not"), refl)
some_keyword keywords.Null = (token forms.Name (codes "null"), refl)
some_keyword keywords.Optimize = (token forms.Name (codes "optimize"), refl)
some_keyword keywords.Option = (token forms.Name (codes "option"), refl)
some_keyword keywords.Order = (token forms.Name (codes "order"), refl)
some_keyword keywords.RamChunk = (token forms.Name (codes "ramchunk"), refl)
some_keyword keywords.Replace = (token forms.Name (codes "replace"), refl)
some_keyword keywords.Rollback = (token forms.Name (codes "rollback"), refl)
some_keyword keywords.RtIndex = (token forms.Name (codes "rtindex"), refl)
some_keyword keywords.Select = (token forms.Name (codes "select"), refl)
some_keyword keywords.Session = (token forms.Name (codes "session"), refl)
some_keyword keywords.Set = (token forms.Name (codes "set"), refl)
some_keyword keywords.Show = (token forms.Name (codes "show"), refl)
some_keyword keywords.Start = (token forms.Name (codes "start"), refl)
some_keyword keywords.Status = (token forms.Name (codes "status"), refl)
some_keyword keywords.Sum = (token forms.Name (codes "sum"), refl)
some_keyword keywords.Tables = (token forms.Name (codes "tables"), refl)
some_keyword keywords.Transaction = (token forms.Name (codes "transaction"), refl)
some_keyword keywords.Truncate = (token forms.Name (codes "truncate"), refl)
some_keyword keywords.Values = (token forms.Name (codes "values"), refl)
some_keyword keywords.Variables = (token forms.Name (codes "variables"), refl)
some_keyword keywords.Warnings = (token forms.Name (codes "warnings"), refl)
some_keyword keywords.Weight = (token forms.Name (codes "weight"), refl)
some_keyword keywords.Where = (token forms.Name (codes "where"), refl)
some_keyword keywords.Within = (token forms.Name (codes "within"), refl)

some_sign : (s : Sign) → (t : Lexeme) × (fits (the_sign s) (kind t) ≡ true)
unfolding kind_by
some_sign signs.OpenParen = (token forms.Sign (codes "("), refl)
some_sign signs.CloseParen = (token forms.Sign (codes ")"), refl)
some_sign signs.Comma = (token forms.Sign (codes ","), refl)
some_sign signs.Semicolon = (token forms.Sign (codes ";"), refl)
some_sign signs.Star = (token forms.Sign (codes "*"), refl)
some_sign signs.Minus = (token forms.Sign (codes "-"), refl)
some_sign signs.Equal = (token forms.Sign (codes "="), refl)
some_sign signs.NotEqual = (token forms.Sign (codes "!="), refl)
some_sign signs.Less = (token forms.Sign (codes "<"), refl)
some_sign signs.Greater = (token forms.Sign (codes ">"), refl)
some_sign signs.LessOrEqual = (token forms.Sign (codes "<="), refl)
some_sign signs.GreaterOrEqual = (token forms.Sign (codes ">="), refl)

pub some_token : (c : Class) → (t : Lexeme) × (fits c (kind t) ≡ true)
unfolding kind_by
some_token (the_keyword w) = let (t, is) = some_keyword w in (t, ap (is_keyword w) is ∙ same_to_itself w)
some_token any_name = (token forms.Quoted (codes "`a`"), refl)
some_token (name_but v w) = (token forms.Quoted (codes "`a`"), refl)
some_token a_number = (token forms.Number (codes "0"), refl)
some_token a_text = (token forms.Text (codes "''"), refl)
some_token a_sysvar = (token forms.SysVar (codes "@@a"), refl)
some_token (the_sign s) = some_sign s
some_token a_comparison = (token forms.Sign (codes "="), refl)
some_token the_end = (token forms.End [], refl)

-- a token of two classes is one of both
meets_at_keyword : (c d : Class) (x : Keyword) → fits c (kinds.Keyword x) ≡ true → fits d (kinds.Keyword x) ≡ true → meets c d ≡ true
meets_at_keyword (the_keyword v) (the_keyword w) x e f =
    eq-eqb (keyword_number v) (keyword_number w) (eqb-true (keyword_number v) (keyword_number x) e ∙ sym (eqb-true (keyword_number w) (keyword_number x) f))
meets_at_keyword (the_keyword v) any_name x e f = ap (λ w. not (is_reserved w)) (keyword_same v x e) ∙ f
meets_at_keyword (the_keyword v) (name_but a b) x e f = ap (λ w. fits (name_but a b) (kinds.Keyword w)) (keyword_same v x e) ∙ f
meets_at_keyword (the_keyword v) _ x e f = never f
meets_at_keyword any_name (the_keyword w) x e f = ap (λ v. not (is_reserved v)) (keyword_same w x f) ∙ e
meets_at_keyword any_name any_name x e f = refl
meets_at_keyword any_name (name_but a b) x e f = refl
meets_at_keyword any_name _ x e f = never f
meets_at_keyword (name_but a b) (the_keyword w) x e f = ap (λ v. fits (name_but a b) (kinds.Keyword v)) (keyword_same w x f) ∙ e
meets_at_keyword (name_but a b) any_name x e f = refl
meets_at_keyword (name_but a b) (name_but y z) x e f = refl
meets_at_keyword (name_but a b) _ x e f = never f
meets_at_keyword _ _ x e f = never e

meets_at_sign : (c d : Class) (x : Sign) → fits c (kinds.Sign x) ≡ true → fits d (kinds.Sign x) ≡ true → meets c d ≡ true
meets_at_sign (the_sign v) (the_sign w) x e f =
    eq-eqb (sign_number v) (sign_number w) (eqb-true (sign_number v) (sign_number x) e ∙ sym (eqb-true (sign_number w) (sign_number x) f))
meets_at_sign (the_sign v) a_comparison x e f = ap is_comparison (sign_same v x e) ∙ f
meets_at_sign (the_sign v) _ x e f = never f
meets_at_sign a_comparison (the_sign w) x e f = ap is_comparison (sign_same w x f) ∙ e
meets_at_sign a_comparison a_comparison x e f = refl
meets_at_sign a_comparison _ x e f = never f
meets_at_sign _ _ x e f = never e

meets_at_name : (c d : Class) → fits c kinds.Name ≡ true → fits d kinds.Name ≡ true → meets c d ≡ true
meets_at_name any_name any_name e f = refl
meets_at_name any_name (name_but a b) e f = refl
meets_at_name any_name _ e f = never f
meets_at_name (name_but a b) any_name e f = refl
meets_at_name (name_but a b) (name_but y z) e f = refl
meets_at_name (name_but a b) _ e f = never f
meets_at_name _ _ e f = never e

meets_at_number : (c d : Class) → fits c kinds.Number ≡ true → fits d kinds.Number ≡ true → meets c d ≡ true
meets_at_number a_number a_number e f = refl
meets_at_number a_number _ e f = never f
meets_at_number _ _ e f = never e

meets_at_text : (c d : Class) → fits c kinds.Text ≡ true → fits d kinds.Text ≡ true → meets c d ≡ true
meets_at_text a_text a_text e f = refl
meets_at_text a_text _ e f = never f
meets_at_text _ _ e f = never e

meets_at_variable : (c d : Class) → fits c kinds.SysVar ≡ true → fits d kinds.SysVar ≡ true → meets c d ≡ true
meets_at_variable a_sysvar a_sysvar e f = refl
meets_at_variable a_sysvar _ e f = never f
meets_at_variable _ _ e f = never e

meets_at_end : (c d : Class) → fits c kinds.End ≡ true → fits d kinds.End ≡ true → meets c d ≡ true
meets_at_end the_end the_end e f = refl
meets_at_end the_end _ e f = never f
meets_at_end _ _ e f = never e

meets_all : (c d : Class) (k : Kind) → fits c k ≡ true → fits d k ≡ true → meets c d ≡ true
meets_all c d (kinds.Keyword x) e f = meets_at_keyword c d x e f
meets_all c d kinds.Name e f = meets_at_name c d e f
meets_all c d kinds.Number e f = meets_at_number c d e f
meets_all c d kinds.Text e f = meets_at_text c d e f
meets_all c d kinds.SysVar e f = meets_at_variable c d e f
meets_all c d (kinds.Sign x) e f = meets_at_sign c d x e f
meets_all c d kinds.End e f = meets_at_end c d e f

within_keyword : (v : Keyword) (d : Class) (k : Kind) → within (the_keyword v) d ≡ true → fits (the_keyword v) k ≡ true → fits d k ≡ true
within_keyword v d (kinds.Keyword x) w e = ap (λ (y : Keyword). fits d (kinds.Keyword y)) (sym (keyword_same v x e)) ∙ w
within_keyword v d kinds.Name w e = never e
within_keyword v d kinds.Number w e = never e
within_keyword v d kinds.Text w e = never e
within_keyword v d kinds.SysVar w e = never e
within_keyword v d (kinds.Sign s) w e = never e
within_keyword v d kinds.End w e = never e

within_sign : (v : Sign) (d : Class) (k : Kind) → within (the_sign v) d ≡ true → fits (the_sign v) k ≡ true → fits d k ≡ true
within_sign v d (kinds.Sign x) w e = ap (λ (y : Sign). fits d (kinds.Sign y)) (sym (sign_same v x e)) ∙ w
within_sign v d (kinds.Keyword x) w e = never e
within_sign v d kinds.Name w e = never e
within_sign v d kinds.Number w e = never e
within_sign v d kinds.Text w e = never e
within_sign v d kinds.SysVar w e = never e
within_sign v d kinds.End w e = never e

-- a token of a class is one of each class that it is within
within_fits : (c d : Class) (k : Kind) → within c d ≡ true → fits c k ≡ true → fits d k ≡ true
within_fits (the_keyword v) d k w e = within_keyword v d k w e
within_fits any_name any_name k w e = e
within_fits any_name _ k w e = never w
within_fits (name_but a b) any_name k w e = and_first (is_name k) (not (is_keyword a k)) (and_first (is_name k && not (is_keyword a k)) (not (is_keyword b k)) e)
within_fits (name_but a b) _ k w e = never w
within_fits a_number a_number k w e = e
within_fits a_number _ k w e = never w
within_fits a_text a_text k w e = e
within_fits a_text _ k w e = never w
within_fits a_sysvar a_sysvar k w e = e
within_fits a_sysvar _ k w e = never w
within_fits (the_sign v) d k w e = within_sign v d k w e
within_fits a_comparison a_comparison k w e = e
within_fits a_comparison _ k w e = never w
within_fits the_end the_end k w e = e
within_fits the_end _ k w e = never w

pub meeting : (c d : Class) (t : Lexeme) → fits c (kind t) ≡ true → fits d (kind t) ≡ true → meets c d ≡ true
meeting c d t e f = meets_all c d (kind t) e f

pub inside : (c d : Class) (t : Lexeme) → within c d ≡ true → fits c (kind t) ≡ true → fits d (kind t) ≡ true
inside c d t w e = within_fits c d (kind t) w e
