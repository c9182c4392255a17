-- Grammars and the values of their texts: parts that may be left out, that are repeated, or that are chosen between.
use Rattle.std.proofs.Common.{ℕ, List, ◌⊎◌, inl, inr, refl, ap}
use Rattle.std.specs.Prelude.{ℤ, pos, neg_ℤ}
use Rattle.ql_lex.specs.declared.token.Sign.TheVariants as signs
use Rattle.ql_lex.specs.Tokens.{Lexeme}
use Rattle.ql_grammar.specs.declared.keyword.Keyword.{Keyword}
use Rattle.ql_grammar.specs.Tokens.{kind, text_value}
use Rattle.ql_grammar.specs.Classes.{a_text, fits}
use Rattle.token_grammar.specs.Language.{Re, In}
use Rattle.ql_grammar.specs.Terminals.{two_keywords, text, whole, enclosed}
use Rattle.ql_grammar.specs.steps.Grammar.{wholes, parens}
use Rattle.ql_grammar.specs.Parts.{AreKeywords, IsText, IsWhole, IsNumber, IsSign, IsComma, IsEnclosed, AreParens}
use Rattle.token_grammar.specs.Values.{◌then◌, AreListed}
use Rattle.ql_grammar.proofs.ClassKinds.{text_is}
use Rattle.ql_grammar.proofs.Agreement.{agree_number, agree_sign, agree_keyword}
use Rattle.token_grammar.proofs.Agreement.{Agree, Agrees, IsEither, agree_after, agree_before, agree_as, agree_listed, agree_or}
use Rattle.ql_grammar.specs.Alphabet.{sphinxql}
use Rattle.ql_grammar.specs.Classes.{Class}

pub agree_text : Agree sphinxql text IsText
unfolding In
agree_text = record {
  text = λ x u (t, e, (k, v)). (t, e, ap (fits a_text) k);
  value = λ u (t, e, f). (text_value t, (t, e, (text_is (kind t) f, refl)));
}

pub agree_keywords : (v w : Keyword) → Agrees sphinxql (two_keywords v w) (AreKeywords v w)
agree_keywords v w = agree_after (agree_keyword v) (agree_keyword w)

pub agree_parens : Agrees sphinxql parens AreParens
agree_parens = agree_after (agree_sign signs.OpenParen) (agree_sign signs.CloseParen)

pub agree_enclosed : {A : Type 0} {r : Re Class} {P : A → List Lexeme → Type 0} → Agree sphinxql r P → Agree sphinxql (enclosed r) (λ x. IsEnclosed (P x))
agree_enclosed h = agree_after (agree_sign signs.OpenParen) (agree_before h (agree_sign signs.CloseParen))

-- a number, maybe behind a `-`
pub agree_whole : Agree sphinxql whole IsWhole
agree_whole = agree_as (agree_or (agree_after (agree_sign signs.Minus) agree_number) agree_number) there back
  where
    there : (x : ℕ ⊎ ℕ) (u : List Lexeme) → IsEither (λ n. IsSign signs.Minus then IsNumber n) IsNumber x u → (z : ℤ) × IsWhole z u
    there (inl n) u h = (neg_ℤ (pos n), inr (n, refl, h))
    there (inr n) u h = (pos n, inl (n, refl, h))

    back : (z : ℤ) (u : List Lexeme) → IsWhole z u → (x : ℕ ⊎ ℕ) × IsEither (λ n. IsSign signs.Minus then IsNumber n) IsNumber x u
    back z u (inl (n, e, h)) = (inr n, h)
    back z u (inr (n, e, h)) = (inl n, h)

pub agree_wholes : Agree sphinxql wholes (λ values. IsEnclosed (AreListed IsComma IsWhole values))
agree_wholes = agree_enclosed (agree_listed (agree_sign signs.Comma) agree_whole)
