-- What a class says of the kind of its tokens.
use Rattle.std.proofs.Common.{◌≡◌, true, refl, sym, ap}
use Rattle.std.specs.Prelude.{◌&&◌, not}
use Rattle.ql_lex.specs.declared.token.Sign.{Sign}
use Rattle.ql_grammar.specs.declared.keyword.Keyword.{Keyword}
use Rattle.ql_grammar.specs.declared.kind.Kind.{Kind}
use Rattle.ql_grammar.specs.declared.kind.Kind.TheVariants as kinds
use Rattle.ql_grammar.specs.Classes.{the_keyword, name_but, a_number, a_text, a_sysvar, the_sign, the_end, fits, is_name, is_keyword}
use Rattle.token_grammar.proofs.Bools.{and_first}
use Rattle.ql_grammar.specs.KeywordLaws.{keyword_same}
use Rattle.ql_grammar.specs.SignLaws.{sign_same}

pub keyword_is : (w : Keyword) (k : Kind) → fits (the_keyword w) k ≡ true → k ≡ kinds.Keyword w
keyword_is w (kinds.Keyword x) e = ap kinds.Keyword (sym (keyword_same w x e))
keyword_is w kinds.Name e = cc
keyword_is w kinds.Number e = cc
keyword_is w kinds.Text e = cc
keyword_is w kinds.SysVar e = cc
keyword_is w (kinds.Sign s) e = cc
keyword_is w kinds.End e = cc

pub sign_is : (v : Sign) (k : Kind) → fits (the_sign v) k ≡ true → k ≡ kinds.Sign v
sign_is v (kinds.Keyword x) e = cc
sign_is v kinds.Name e = cc
sign_is v kinds.Number e = cc
sign_is v kinds.Text e = cc
sign_is v kinds.SysVar e = cc
sign_is v (kinds.Sign s) e = ap kinds.Sign (sym (sign_same v s e))
sign_is v kinds.End e = cc

pub number_is : (k : Kind) → fits a_number k ≡ true → k ≡ kinds.Number
number_is (kinds.Keyword w) e = cc
number_is kinds.Name e = cc
number_is kinds.Number e = refl
number_is kinds.Text e = cc
number_is kinds.SysVar e = cc
number_is (kinds.Sign s) e = cc
number_is kinds.End e = cc

pub text_is : (k : Kind) → fits a_text k ≡ true → k ≡ kinds.Text
text_is (kinds.Keyword w) e = cc
text_is kinds.Name e = cc
text_is kinds.Number e = cc
text_is kinds.Text e = refl
text_is kinds.SysVar e = cc
text_is (kinds.Sign s) e = cc
text_is kinds.End e = cc

pub variable_is : (k : Kind) → fits a_sysvar k ≡ true → k ≡ kinds.SysVar
variable_is (kinds.Keyword w) e = cc
variable_is kinds.Name e = cc
variable_is kinds.Number e = cc
variable_is kinds.Text e = cc
variable_is kinds.SysVar e = refl
variable_is (kinds.Sign s) e = cc
variable_is kinds.End e = cc

pub end_is : (k : Kind) → fits the_end k ≡ true → k ≡ kinds.End
end_is (kinds.Keyword w) e = cc
end_is kinds.Name e = cc
end_is kinds.Number e = cc
end_is kinds.Text e = cc
end_is kinds.SysVar e = cc
end_is (kinds.Sign s) e = cc
end_is kinds.End e = refl

pub but_name : (v w : Keyword) (k : Kind) → fits (name_but v w) k ≡ true → is_name k ≡ true
but_name v w k e = and_first (is_name k) (not (is_keyword v k)) (and_first (is_name k && not (is_keyword v k)) (not (is_keyword w k)) e)
