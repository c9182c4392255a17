-- The parts of a text stand for one value only: words, names, numbers, and what is in parentheses.
use Rattle.std.proofs.Common.{◌≡◌, ℕ, List, [], true, ◌⊎◌, inl, inr, refl, sym, ◌∙◌, ap}
use Rattle.std.specs.Prelude.{ℤ, pos, neg_ℤ, IsTrue}
use Rattle.ql_lex.specs.declared.token.Sign.{Sign}
use Rattle.ql_lex.specs.declared.token.Sign.TheVariants as signs
use Rattle.ql_lex.specs.Tokens.{Lexeme}
use Rattle.ql_grammar.specs.declared.keyword.Keyword.{Keyword}
use Rattle.ql_grammar.specs.declared.keyword.Keyword.TheVariants as keywords
use Rattle.ql_grammar.specs.declared.kind.Kind.{Kind}
use Rattle.ql_grammar.specs.declared.kind.Kind.TheVariants as kinds
use Rattle.ql_tree.specs.declared.select.Comparison.{Comparison}
use Rattle.ql_tree.specs.declared.select.Comparison.TheVariants as comparisons
use Rattle.ql_grammar.specs.Tokens.{kind, name_value, number_value, text_value}
use Rattle.ql_grammar.specs.Classes.{Class, the_keyword, any_name, name_but, a_number, a_text, a_sysvar, the_sign, a_comparison, fits, is_name}
use Rattle.token_grammar.specs.Language.{Re, seq}
use Rattle.ql_grammar.specs.Terminals.{keyword, two_keywords, sign, name, number, text, sysvar, target_name, whole, enclosed}
use Rattle.ql_grammar.specs.steps.Grammar.{wholes, parens, comparison}
use Rattle.ql_grammar.specs.Parts.{IsKeyword, AreKeywords, IsSign, IsComma, IsName, IsTargetName, IsNumber, IsText, IsVariable, IsWhole, IsEnclosed, AreParens}
use Rattle.token_grammar.specs.Values.{◌then◌, AreListed}
use Rattle.token_grammar.specs.Firsts.{apart}
use Rattle.ql_grammar.specs.Selects.{comparison_sign, IsComparison}
use Rattle.token_grammar.proofs.Agreement.{IsEither}
use Rattle.ql_grammar.specs.KeywordLaws.{same_to_itself}
use Rattle.token_grammar.proofs.Once.{Once, IsOnce, goes, once_as, once_before, once_after, once_one}
use Rattle.token_grammar.proofs.OnceChoices.{once_either, once_listed}
use Rattle.ql_grammar.proofs.SelectAgreement.{sign_compares}
use Rattle.ql_grammar.proofs.Agreement.{sign_to_itself}
use Rattle.token_grammar.proofs.Beginnings.{apart_none}
use Rattle.ql_grammar.specs.Alphabet.{sphinxql}

pub once_keyword : (w : Keyword) → IsOnce sphinxql (keyword w) [] (IsKeyword w)
once_keyword w = once_one sphinxql (the_keyword w) (λ _ t. kind t ≡ kinds.Keyword w) (λ x t k. ap (fits (the_keyword w)) k ∙ same_to_itself w) (λ x y t h k. refl)

pub once_sign : (s : Sign) → IsOnce sphinxql (sign s) [] (IsSign s)
once_sign s = once_one sphinxql (the_sign s) (λ _ t. kind t ≡ kinds.Sign s) (λ x t k. ap (fits (the_sign s)) k ∙ sign_to_itself s) (λ x y t h k. refl)

pub once_name : Once sphinxql name [] IsName
once_name = once_one sphinxql any_name (λ x t. IsTrue (is_name (kind t)) × (x ≡ name_value t)) (λ x t h. h.0) (λ x y t h k. h.1 ∙ sym k.1)

pub once_target_name : Once sphinxql target_name [] IsTargetName
once_target_name =
    once_one sphinxql (name_but keywords.Autocommit keywords.Names) (λ x t. IsTrue (fits (name_but keywords.Autocommit keywords.Names) (kind t)) × (x ≡ name_value t)) (λ x t h. h.0) (λ x y t h k. h.1 ∙ sym k.1)

pub once_number : Once sphinxql number [] IsNumber
once_number = once_one sphinxql a_number (λ x t. (kind t ≡ kinds.Number) × (x ≡ number_value t)) (λ x t h. ap (fits a_number) h.0) (λ x y t h k. h.1 ∙ sym k.1)

pub once_text : Once sphinxql text [] IsText
once_text = once_one sphinxql a_text (λ x t. (kind t ≡ kinds.Text) × (x ≡ text_value t)) (λ x t h. ap (fits a_text) h.0) (λ x y t h k. h.1 ∙ sym k.1)

pub once_variable : Once sphinxql sysvar [] IsVariable
once_variable = once_one sphinxql a_sysvar (λ x t. (kind t ≡ kinds.SysVar) × (x ≡ name_value t)) (λ x t h. ap (fits a_sysvar) h.0) (λ x y t h k. h.1 ∙ sym k.1)

pub once_keywords : (v w : Keyword) → IsOnce sphinxql (two_keywords v w) [] (AreKeywords v w)
once_keywords v w = once_after (once_keyword v) (once_keyword w) refl

pub once_parens : IsOnce sphinxql parens [] AreParens
once_parens = once_after (once_sign signs.OpenParen) (once_sign signs.CloseParen) refl

pub once_enclosed : {A : Type 0} {r : Re Class} {cs : List Class} {P : A → List Lexeme → Type 0} → Once sphinxql r cs P → apart sphinxql cs (sign signs.CloseParen) ≡ true → Once sphinxql (enclosed r) (goes [] (seq r (sign signs.CloseParen)) []) (λ x. IsEnclosed (P x))
once_enclosed {A} {r} h free = once_after (once_sign signs.OpenParen) (once_before h (once_sign signs.CloseParen) free) (apart_none sphinxql (seq r (sign signs.CloseParen)))

-- a number, maybe behind a `-`
pub once_whole : Once sphinxql whole [] IsWhole
once_whole = once_as (once_either (once_after (once_sign signs.Minus) once_number refl) once_number refl refl refl) value back
  where
    value : ℕ ⊎ ℕ → ℤ
    value (inl n) = neg_ℤ (pos n)
    value (inr n) = pos n

    back : (z : ℤ) (u : List Lexeme) → IsWhole z u → (x : ℕ ⊎ ℕ) × IsEither (λ n. IsSign signs.Minus then IsNumber n) IsNumber x u × (value x ≡ z)
    back z u (inl (n, e, h)) = (inr n, h, sym e)
    back z u (inr (n, e, h)) = (inl n, h, sym e)

pub once_wholes : Once sphinxql wholes [] (λ values. IsEnclosed (AreListed IsComma IsWhole values))
once_wholes = once_enclosed (once_listed (once_sign signs.Comma) once_whole refl refl) refl

-- Comparisons.
sign_op : Sign → Comparison
sign_op signs.NotEqual = comparisons.NotEqual
sign_op signs.Less = comparisons.Less
sign_op signs.Greater = comparisons.Greater
sign_op signs.LessOrEqual = comparisons.AtMost
sign_op signs.GreaterOrEqual = comparisons.AtLeast
sign_op _ = comparisons.Equal

kind_op : Kind → Comparison
unfolding sign_op
kind_op (kinds.Sign s) = sign_op s
kind_op _ = comparisons.Equal

kind_is_op : (op : Comparison) → kind_op (kinds.Sign (comparison_sign op)) ≡ op
unfolding kind_op
kind_is_op comparisons.Equal = refl
kind_is_op comparisons.NotEqual = refl
kind_is_op comparisons.Less = refl
kind_is_op comparisons.Greater = refl
kind_is_op comparisons.AtMost = refl
kind_is_op comparisons.AtLeast = refl

pub once_comparison : Once sphinxql comparison [] IsComparison
once_comparison = once_one sphinxql a_comparison (λ op t. kind t ≡ kinds.Sign (comparison_sign op)) (λ op t k. ap (fits a_comparison) k ∙ sign_compares op) (λ x y t h k. sym (kind_is_op x) ∙ ap kind_op (sym h ∙ k) ∙ kind_is_op y)
