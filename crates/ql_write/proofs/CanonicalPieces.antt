-- Pieces as tokens: each is spelled as a token of its form, and read as what it stands for.
use Rattle.std.proofs.Common.{◌≡◌, ℕ, ◌^◌, ◌<◌, ◌≤◌, Bool, true, ◌&&◌, List, map, length, refl, sym, ap, ◌∙◌, subst, leb}
use Rattle.std.proofs.lemmas.Bool.{and_parts, leb-true}
use Rattle.std.specs.Str.{str_to_ascii_lowercase}
use Rattle.std.specs.Str.Parse.{digits_value}
use Rattle.name_table.specs.NamedValues.{value_named}
use Rattle.ql_lex.specs.declared.token.Sign.{Sign}
use Rattle.ql_lex.specs.declared.token.Sign.TheVariants as signs
use Rattle.ql_lex.specs.declared.token.TokenKind.{TokenKind}
use Rattle.ql_lex.specs.declared.token.TokenKind.TheVariants as forms
use Rattle.ql_lex.specs.Shapes.{is_name_byte, is_variable_byte, is_word, IsLexeme}
use Rattle.ql_lex.specs.Spacing.{Spelling, IsSpelling, AreSpellings, IsSpelled, AreSpelled}
use Rattle.ql_lex.specs.Tokens.{Lexeme}
use Rattle.ql_lex.specs.Values.{name_of, text_of}
use Rattle.ql_grammar.specs.declared.keyword.Keyword.{Keyword}
use Rattle.ql_grammar.specs.declared.keyword.Keyword.TheVariants as keywords
use Rattle.ql_grammar.specs.declared.kind.Kind.TheVariants as kinds
use Rattle.ql_grammar.specs.Tokens.{kind, kind_by, name_value, number_value, text_value}
use Rattle.ql_grammar.specs.Keywords.{keyword_named}
use Rattle.ql_write.specs.Pieces.{Piece, keyword, sign, name, number, text, variable, in_capitals, sign_text, spelling}
use Rattle.ql_write.proofs.CanonicalNames.{IsNameBy, inside_of, enclosed_of, decimal_value}
use Rattle.ql_write.proofs.CanonicalTexts.{text_back}

-- what a piece is as a token
abbrev pub form : Piece → TokenKind
form (keyword w) = forms.Name
form (sign s) = forms.Sign
form (name bytes) = forms.Quoted
form (number n) = forms.Number
form (text bytes) = forms.Text
form (variable bytes) = forms.SysVar

abbrev pub spelled_as : Piece → Spelling
spelled_as p = record { kind = form p; bytes = spelling p }

abbrev pub AllFit : List Piece → Type 0
AllFit ps = AreSpellings (map spelled_as ps)

-- the tokens are the pieces
abbrev pub Spells : List Piece → List Lexeme → Type 0
Spells ps u = AreSpelled (map spelled_as ps) u

not_end : (p : Piece) → form p ≡ forms.End → ⊥
not_end (keyword w) e = cc
not_end (sign s) e = cc
not_end (name bytes) e = cc
not_end (number n) e = cc
not_end (text bytes) e = cc
not_end (variable bytes) e = cc

pub fits : (p : Piece) → IsLexeme (form p) (spelling p) → IsSpelling (spelled_as p)
fits p is = record { lexeme = is; other = not_end p }

-- Keywords and signs.

abbrev is_short_name : List ℕ → Bool
is_short_name bytes = is_word is_name_byte bytes && leb (length bytes) 64

short_word : (w : Keyword) → is_short_name (in_capitals w) ≡ true
short_word keywords.And = refl
short_word keywords.As = refl
short_word keywords.Asc = refl
short_word keywords.Autocommit = refl
short_word keywords.Begin = refl
short_word keywords.Between = refl
short_word keywords.By = refl
short_word keywords.Commit = refl
short_word keywords.Count = refl
short_word keywords.Database = refl
short_word keywords.Databases = refl
short_word keywords.Delete = refl
short_word keywords.Desc = refl
short_word keywords.Describe = refl
short_word keywords.Distinct = refl
short_word keywords.Facet = refl
short_word keywords.Flush = refl
short_word keywords.From = refl
short_word keywords.Global = refl
short_word keywords.Group = refl
short_word keywords.GroupBy = refl
short_word keywords.Having = refl
short_word keywords.Id = refl
short_word keywords.In = refl
short_word keywords.Index = refl
short_word keywords.Insert = refl
short_word keywords.Into = refl
short_word keywords.Limit = refl
short_word keywords.Match = refl
short_word keywords.Max = refl
short_word keywords.Meta = refl
short_word keywords.Min = refl
short_word keywords.Names = refl
short_word keywords.Not = refl
short_word keywords.Null = refl
short_word keywords.Optimize = refl
short_word keywords.Option = refl
short_word keywords.Order = refl
short_word keywords.RamChunk = refl
short_word keywords.Replace = refl
short_word keywords.Rollback = refl
short_word keywords.RtIndex = refl
short_word keywords.Select = refl
short_word keywords.Session = refl
short_word keywords.Set = refl
short_word keywords.Show = refl
short_word keywords.Start = refl
short_word keywords.Status = refl
short_word keywords.Sum = refl
short_word keywords.Tables = refl
short_word keywords.Transaction = refl
short_word keywords.Truncate = refl
short_word keywords.Values = refl
short_word keywords.Variables = refl
short_word keywords.Warnings = refl
short_word keywords.Weight = refl
short_word keywords.Where = refl
short_word keywords.Within = refl

pub word_fits : (w : Keyword) → IsLexeme forms.Name (in_capitals w)
word_fits w =
    let both = and_parts (is_word is_name_byte (in_capitals w)) (leb (length (in_capitals w)) 64) (short_word w) in
    (both.0, leb-true (length (in_capitals w)) 64 both.1)

pub word_reads : (w : Keyword) → kind_by forms.Name (in_capitals w) ≡ kinds.Keyword w
unfolding kind_by keyword_named value_named
word_reads keywords.And = refl
word_reads keywords.As = refl
word_reads keywords.Asc = refl
word_reads keywords.Autocommit = refl
word_reads keywords.Begin = refl
word_reads keywords.Between = refl
word_reads keywords.By = refl
word_reads keywords.Commit = refl
word_reads keywords.Count = refl
word_reads keywords.Database = refl
word_reads keywords.Databases = refl
word_reads keywords.Delete = refl
word_reads keywords.Desc = refl
word_reads keywords.Describe = refl
word_reads keywords.Distinct = refl
word_reads keywords.Facet = refl
word_reads keywords.Flush = refl
word_reads keywords.From = refl
word_reads keywords.Global = refl
word_reads keywords.Group = refl
word_reads keywords.GroupBy = refl
word_reads keywords.Having = refl
word_reads keywords.Id = refl
word_reads keywords.In = refl
word_reads keywords.Index = refl
word_reads keywords.Insert = refl
word_reads keywords.Into = refl
word_reads keywords.Limit = refl
word_reads keywords.Match = refl
word_reads keywords.Max = refl
word_reads keywords.Meta = refl
word_reads keywords.Min = refl
word_reads keywords.Names = refl
word_reads keywords.Not = refl
word_reads keywords.Null = refl
word_reads keywords.Optimize = refl
word_reads keywords.Option = refl
word_reads keywords.Order = refl
word_reads keywords.RamChunk = refl
word_reads keywords.Replace = refl
word_reads keywords.Rollback = refl
word_reads keywords.RtIndex = refl
word_reads keywords.Select = refl
word_reads keywords.Session = refl
word_reads keywords.Set = refl
word_reads keywords.Show = refl
word_reads keywords.Start = refl
word_reads keywords.Status = refl
word_reads keywords.Sum = refl
word_reads keywords.Tables = refl
word_reads keywords.Transaction = refl
word_reads keywords.Truncate = refl
word_reads keywords.Values = refl
word_reads keywords.Variables = refl
word_reads keywords.Warnings = refl
word_reads keywords.Weight = refl
word_reads keywords.Where = refl
word_reads keywords.Within = refl

pub sign_fits : (s : Sign) → IsLexeme forms.Sign (sign_text s)
sign_fits signs.OpenParen = refl
sign_fits signs.CloseParen = refl
sign_fits signs.Comma = refl
sign_fits signs.Semicolon = refl
sign_fits signs.Star = refl
sign_fits signs.Minus = refl
sign_fits signs.Equal = refl
sign_fits signs.NotEqual = refl
sign_fits signs.Less = refl
sign_fits signs.Greater = refl
sign_fits signs.LessOrEqual = refl
sign_fits signs.GreaterOrEqual = refl

pub sign_reads : (s : Sign) → kind_by forms.Sign (sign_text s) ≡ kinds.Sign s
unfolding kind_by
sign_reads signs.OpenParen = refl
sign_reads signs.CloseParen = refl
sign_reads signs.Comma = refl
sign_reads signs.Semicolon = refl
sign_reads signs.Star = refl
sign_reads signs.Minus = refl
sign_reads signs.Equal = refl
sign_reads signs.NotEqual = refl
sign_reads signs.Less = refl
sign_reads signs.Greater = refl
sign_reads signs.LessOrEqual = refl
sign_reads signs.GreaterOrEqual = refl

-- Names, numbers, texts and variables.

pub quoted_fits : (bytes : List ℕ) → IsNameBy is_name_byte bytes → IsLexeme forms.Quoted (spelling (name bytes))
quoted_fits bytes is =
    ((enclosed_of 96 bytes, ap (is_word is_name_byte) (inside_of 96 bytes) ∙ is.keyword), subst (λ (v : List ℕ). length v ≤ 64) (sym (inside_of 96 bytes)) is.size)

pub variable_fits : (bytes : List ℕ) → IsNameBy is_variable_byte bytes → IsLexeme forms.SysVar (spelling (variable bytes))
variable_fits bytes is = ((refl, refl, is.keyword), is.size)

-- what a token spelled as a piece is
pub kind_is : (p : Piece) (t : Lexeme) → IsSpelled (spelled_as p) t → kind t ≡ kind_by (form p) (spelling p)
kind_is p t is = ap (λ k. kind_by k t.text) is.kind ∙ ap (kind_by (form p)) is.bytes

name_is : (p : Piece) (t : Lexeme) → IsSpelled (spelled_as p) t → name_value t ≡ name_of (form p) (spelling p)
name_is p t is = ap (λ k. name_of k t.text) is.kind ∙ ap (name_of (form p)) is.bytes

pub quoted_kind : (bytes : List ℕ) (t : Lexeme) → IsSpelled (spelled_as (name bytes)) t → kind t ≡ kinds.Name
unfolding kind_by
quoted_kind bytes t is = kind_is (name bytes) t is

pub quoted_name : (bytes : List ℕ) (t : Lexeme) → str_to_ascii_lowercase bytes ≡ bytes → IsSpelled (spelled_as (name bytes)) t → bytes ≡ name_value t
quoted_name bytes t small is = sym (name_is (name bytes) t is ∙ ap str_to_ascii_lowercase (inside_of 96 bytes) ∙ small)

pub variable_kind : (bytes : List ℕ) (t : Lexeme) → IsSpelled (spelled_as (variable bytes)) t → kind t ≡ kinds.SysVar
unfolding kind_by
variable_kind bytes t is = kind_is (variable bytes) t is

pub variable_name : (bytes : List ℕ) (t : Lexeme) → str_to_ascii_lowercase bytes ≡ bytes → IsSpelled (spelled_as (variable bytes)) t → bytes ≡ name_value t
variable_name bytes t small is = sym (name_is (variable bytes) t is ∙ small)

pub number_kind : (n : ℕ) (t : Lexeme) → IsSpelled (spelled_as (number n)) t → kind t ≡ kinds.Number
unfolding kind_by
number_kind n t is = kind_is (number n) t is

pub number_is : (n : ℕ) (t : Lexeme) → n < 2 ^ 64 → IsSpelled (spelled_as (number n)) t → n ≡ number_value t
number_is n t below is = sym (ap (digits_value 10) is.bytes ∙ decimal_value n below)

pub text_kind : (bytes : List ℕ) (t : Lexeme) → IsSpelled (spelled_as (text bytes)) t → kind t ≡ kinds.Text
unfolding kind_by
text_kind bytes t is = kind_is (text bytes) t is

pub text_is : (bytes : List ℕ) (t : Lexeme) → IsSpelled (spelled_as (text bytes)) t → bytes ≡ text_value t
text_is bytes t is = sym (ap text_of is.bytes ∙ text_back bytes)
