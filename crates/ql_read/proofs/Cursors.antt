-- The tokens that are left are those of a text.
use Rattle.std.proofs.Common.{arith, ◌≡◌, ◌≢◌, ℕ, ◌-◌, ◌<◌, List, [], ◌∷◌, ◌++◌, length, get_or, take, drop, refl, sym, ◌∙◌, ap, subst, Option, Some, None, true}
use Rattle.std.specs.List.{All}
use Rattle.std.specs.Prelude.{IsSome}
use Rattle.std.proofs.lemmas.Grind.{common_steps}
use Rattle.std.proofs.lemmas.List.Elements.{All-head, All-tail}
use Rattle.ql_lex.specs.declared.token.Sign.{Sign}
use Rattle.ql_lex.specs.declared.token.Token.{Token}
use Rattle.ql_lex.specs.declared.token.TokenKind.{TokenKind}
use Rattle.ql_lex.specs.declared.token.TokenKind.TheVariants as forms
use Rattle.ql_lex.specs.Shapes.{IsLexeme, IsNamed, sign_of}
use Rattle.ql_lex.specs.Tokens.{Lexeme, lexeme_of, AreLexemes}
use Rattle.ql_grammar.specs.declared.keyword.Keyword.{Keyword}
use Rattle.ql_grammar.specs.declared.kind.Kind.TheVariants as kinds
use Rattle.ql_grammar.specs.Keywords.{keyword_named}
use Rattle.ql_grammar.specs.Tokens.{kind, kind_by, name_kind, sign_kind, lexemes, first_kind}
use Rattle.ql_grammar.specs.Classes.{is_name}

end_kind : (f : TokenKind) (t : Lexeme) → t.kind ≡ f → f ≡ forms.End → kind t ≡ kinds.End
unfolding kind_by
end_kind f t is end = ap (λ x. kind_by x t.text) (is ∙ end)

pub lexemes_behind : (t : Lexeme) (ts : List Lexeme) → AreLexemes (t ∷ ts) → first_kind (t ∷ ts) ≢ kinds.End → AreLexemes ts
lexemes_behind t ts h other = go h.front h.is h.others
  where
    go : (front : List Lexeme) → (t ∷ ts) ≡ front ++ h.last ∷ [] → All (λ x. x.kind ≢ forms.End) front → AreLexemes ts
    go [] is others =
        let same : h.last ≡ t = cc in
        absurd (other (end_kind h.last.kind t (sym (ap (λ (x : Lexeme). x.kind) same)) h.ends))
    go (x ∷ front) is others = record {
      each = All-tail (λ (x : Lexeme). IsLexeme x.kind x.text) t ts h.each;
      front = front;
      last = h.last;
      is = cc;
      ends = h.ends;
      others = All-tail (λ (x : Lexeme). x.kind ≢ forms.End) x front others;
    }

pub tokens_behind : (ts : List Token) → AreLexemes (lexemes ts) → first_kind (lexemes ts) ≢ kinds.End → AreLexemes (lexemes (take (length ts - 1) (drop 1 ts)))
tokens_behind [] h other = absurd (other refl)
tokens_behind (t ∷ ts) h other =
    let same : take (length (t ∷ ts) - 1) (drop 1 (t ∷ ts)) ≡ ts = grind (arith, common_steps) in
    subst (λ (us : List Token). AreLexemes (lexemes us)) (sym same) (lexemes_behind (lexeme_of t) (lexemes ts) h other)

-- a token stands after one that isn't the end
more_behind : (t : Token) (ts : List Token) → AreLexemes (lexemes ts) → 1 < length (t ∷ ts)
more_behind t [] h = absurd (none h.front h.is)
  where
    none : (front : List Lexeme) → [] ≡ front ++ h.last ∷ [] → ⊥
    none [] is = cc
    none (x ∷ front) is = cc
more_behind t (u ∷ ts) h = omega arith

pub token_behind : (ts : List Token) → AreLexemes (lexemes ts) → first_kind (lexemes ts) ≢ kinds.End → 1 < length ts
token_behind [] h other = absurd (other refl)
token_behind (t ∷ ts) h other = more_behind t ts (lexemes_behind (lexeme_of t) (lexemes ts) h other)

-- and it is the first of those behind
pub kind_behind : (ts : List Token) (d : Token) → 1 < length ts → kind (lexeme_of (get_or ts 1 d)) ≡ first_kind (lexemes (take (length ts - 1) (drop 1 ts)))
kind_behind [] d more = absurd (omega (arith, more))
kind_behind (t ∷ []) d more = absurd (omega (arith, more))
kind_behind (t ∷ u ∷ ts) d more =
    let same : take (length (t ∷ u ∷ ts) - 1) (drop 1 (t ∷ u ∷ ts)) ≡ u ∷ ts = grind (arith, common_steps) in
    ap (λ (us : List Token). first_kind (lexemes us)) (sym same)

-- what the kinds say of the forms
no_Number : (o : Option Keyword) → name_kind o ≡ kinds.Number → ⊥
no_Number None e = cc
no_Number (Some w) e = cc

sign_no_Number : (o : Option Sign) → sign_kind o ≡ kinds.Number → ⊥
sign_no_Number None e = cc
sign_no_Number (Some w) e = cc

pub number_form : (f : TokenKind) (text : List ℕ) → kind_by f text ≡ kinds.Number → f ≡ forms.Number
unfolding kind_by
number_form forms.Name text e = absurd (no_Number (keyword_named text) e)
number_form forms.Quoted text e = cc
number_form forms.Number text e = refl
number_form forms.Text text e = cc
number_form forms.SysVar text e = cc
number_form forms.Sign text e = absurd (sign_no_Number (sign_of text) e)
number_form forms.End text e = cc

no_Text : (o : Option Keyword) → name_kind o ≡ kinds.Text → ⊥
no_Text None e = cc
no_Text (Some w) e = cc

sign_no_Text : (o : Option Sign) → sign_kind o ≡ kinds.Text → ⊥
sign_no_Text None e = cc
sign_no_Text (Some w) e = cc

pub text_form : (f : TokenKind) (text : List ℕ) → kind_by f text ≡ kinds.Text → f ≡ forms.Text
unfolding kind_by
text_form forms.Name text e = absurd (no_Text (keyword_named text) e)
text_form forms.Quoted text e = cc
text_form forms.Number text e = cc
text_form forms.Text text e = refl
text_form forms.SysVar text e = cc
text_form forms.Sign text e = absurd (sign_no_Text (sign_of text) e)
text_form forms.End text e = cc

no_SysVar : (o : Option Keyword) → name_kind o ≡ kinds.SysVar → ⊥
no_SysVar None e = cc
no_SysVar (Some w) e = cc

sign_no_SysVar : (o : Option Sign) → sign_kind o ≡ kinds.SysVar → ⊥
sign_no_SysVar None e = cc
sign_no_SysVar (Some w) e = cc

pub variable_form : (f : TokenKind) (text : List ℕ) → kind_by f text ≡ kinds.SysVar → f ≡ forms.SysVar
unfolding kind_by
variable_form forms.Name text e = absurd (no_SysVar (keyword_named text) e)
variable_form forms.Quoted text e = cc
variable_form forms.Number text e = cc
variable_form forms.Text text e = cc
variable_form forms.SysVar text e = refl
variable_form forms.Sign text e = absurd (sign_no_SysVar (sign_of text) e)
variable_form forms.End text e = cc

-- a name has the form of a name
sign_no_name : (o : Option Sign) → is_name (sign_kind o) ≡ true → ⊥
sign_no_name None e = cc
sign_no_name (Some w) e = cc

pub named : (f : TokenKind) (text : List ℕ) → is_name (kind_by f text) ≡ true → IsLexeme f text → IsNamed f text
unfolding kind_by
named forms.Name text e h = h.0
named forms.Quoted text e h = h.0
named forms.Number text e h = cc
named forms.Text text e h = cc
named forms.SysVar text e h = cc
named forms.Sign text e h = absurd (sign_no_name (sign_of text) e)
named forms.End text e h = cc

-- the end is the last token
no_End : (o : Option Keyword) → name_kind o ≡ kinds.End → ⊥
no_End None e = cc
no_End (Some w) e = cc

no_sign_End : (o : Option Sign) → IsSome o → sign_kind o ≡ kinds.End → ⊥
no_sign_End None some e = cc
no_sign_End (Some w) some e = cc

end_form : (f : TokenKind) (text : List ℕ) → IsLexeme f text → kind_by f text ≡ kinds.End → f ≡ forms.End
unfolding kind_by
end_form forms.Name text h e = absurd (no_End (keyword_named text) e)
end_form forms.Quoted text h e = cc
end_form forms.Number text h e = cc
end_form forms.Text text h e = cc
end_form forms.SysVar text h e = cc
end_form forms.Sign text h e = absurd (no_sign_End (sign_of text) h e)
end_form forms.End text h e = refl

pub end_is_last : (ts : List Lexeme) → AreLexemes ts → first_kind ts ≡ kinds.End → length ts ≡ 1
end_is_last [] h e = absurd (nothing h.front h.last h.is)
  where
    nothing : (front : List Lexeme) (last : Lexeme) → [] ≡ front ++ last ∷ [] → ⊥
    nothing [] last is = cc
    nothing (x ∷ front) last is = cc
end_is_last (t ∷ ts) h e = go h.front h.is h.others
  where
    go : (front : List Lexeme) → (t ∷ ts) ≡ front ++ h.last ∷ [] → All (λ x. x.kind ≢ forms.End) front → length (t ∷ ts) ≡ 1
    go [] is others = ap length is
    go (x ∷ front) is others =
        let same : x ≡ t = cc in
        let form = end_form t.kind t.text (All-head (λ (x : Lexeme). IsLexeme x.kind x.text) t ts h.each) e in
        absurd (All-head (λ (x : Lexeme). x.kind ≢ forms.End) x front others (ap (λ (y : Lexeme). y.kind) same ∙ form))
