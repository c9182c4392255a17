-- A grammar and the values of its texts: each text has a value, and each value's tokens are a text.
use Rattle.std.proofs.Common.{◌≡◌, true, refl, ◌∙◌, ap}
use Rattle.std.proofs.lemmas.Bool.{eq-eqb}
use Rattle.ql_lex.specs.declared.token.Sign.{Sign}
use Rattle.ql_grammar.specs.declared.keyword.Keyword.{Keyword}
use Rattle.ql_grammar.specs.Tokens.{kind, name_value, number_value}
use Rattle.ql_grammar.specs.Classes.{the_keyword, a_number, the_sign, fits, same_sign, sign_number}
use Rattle.token_grammar.specs.Language.{In}
use Rattle.ql_grammar.specs.Terminals.{keyword, sign, name, number}
use Rattle.ql_grammar.specs.Parts.{IsKeyword, IsSign, IsName, IsNumber}
use Rattle.ql_grammar.specs.KeywordLaws.{same_to_itself}
use Rattle.ql_grammar.proofs.ClassKinds.{keyword_is, sign_is, number_is}
use Rattle.ql_grammar.specs.Alphabet.{sphinxql}
use Rattle.token_grammar.proofs.Agreement.{Agree, Agrees}

pub agree_keyword : (w : Keyword) → Agrees sphinxql (keyword w) (IsKeyword w)
unfolding In
agree_keyword w = record {
  text = λ x u (t, e, k). (t, e, ap (fits (the_keyword w)) k ∙ same_to_itself w);
  value = λ u (t, e, f). (tt, (t, e, keyword_is w (kind t) f));
}

-- a sign is the same as itself
pub sign_to_itself : (s : Sign) → same_sign s s ≡ true
sign_to_itself s = eq-eqb (sign_number s) (sign_number s) refl

pub agree_sign : (s : Sign) → Agrees sphinxql (sign s) (IsSign s)
unfolding In
agree_sign s = record {
  text = λ x u (t, e, k). (t, e, ap (fits (the_sign s)) k ∙ sign_to_itself s);
  value = λ u (t, e, f). (tt, (t, e, sign_is s (kind t) f));
}

pub agree_name : Agree sphinxql name IsName
unfolding In
agree_name = record {
  text = λ x u (t, e, (f, v)). (t, e, f);
  value = λ u (t, e, f). (name_value t, (t, e, (f, refl)));
}

pub agree_number : Agree sphinxql number IsNumber
unfolding In
agree_number = record {
  text = λ x u (t, e, (k, v)). (t, e, ap (fits a_number) k);
  value = λ u (t, e, f). (number_value t, (t, e, (number_is (kind t) f, refl)));
}
