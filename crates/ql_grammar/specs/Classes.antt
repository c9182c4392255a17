-- The classes of tokens that the grammar names.
use Rattle.std.specs.Prelude.{ℕ, Bool, true, false, not, ◌&&◌, ◌==◌}
use Rattle.ql_lex.specs.declared.token.Sign.{Sign}
use Rattle.ql_lex.specs.declared.token.Sign.TheVariants as signs
use Rattle.ql_grammar.specs.declared.keyword.Keyword.{Keyword}
use Rattle.ql_grammar.specs.declared.kind.Kind.{Kind}
use Rattle.ql_grammar.specs.declared.kind.Kind.TheVariants as kinds
use Rattle.ql_grammar.specs.Keywords.{is_reserved, same_keyword}

abbrev pub sign_number : Sign → ℕ
sign_number signs.OpenParen = 0
sign_number signs.CloseParen = 1
sign_number signs.Comma = 2
sign_number signs.Semicolon = 3
sign_number signs.Star = 4
sign_number signs.Minus = 5
sign_number signs.Equal = 6
sign_number signs.NotEqual = 7
sign_number signs.Less = 8
sign_number signs.Greater = 9
sign_number signs.LessOrEqual = 10
sign_number signs.GreaterOrEqual = 11

abbrev pub same_sign : Sign → Sign → Bool
same_sign a b = sign_number a == sign_number b

pub data Class : Type 0 where
  -- this keyword
  the_keyword : Keyword → Class
  -- any name: also one between backquotes, and a keyword that isn't reserved
  any_name : Class
  -- a name that isn't this keyword or that one
  name_but : Keyword → Keyword → Class
  a_number : Class
  a_text : Class
  a_sysvar : Class
  -- this sign
  the_sign : Sign → Class
  -- = != < > <= >=
  a_comparison : Class
  -- the end of the text
  the_end : Class

abbrev pub is_name : Kind → Bool
is_name (kinds.Keyword w) = not (is_reserved w)
is_name kinds.Name = true
is_name kinds.Number = false
is_name kinds.Text = false
is_name kinds.SysVar = false
is_name (kinds.Sign s) = false
is_name kinds.End = false

abbrev pub is_keyword : Keyword → Kind → Bool
is_keyword v (kinds.Keyword w) = same_keyword v w
is_keyword v kinds.Name = false
is_keyword v kinds.Number = false
is_keyword v kinds.Text = false
is_keyword v kinds.SysVar = false
is_keyword v (kinds.Sign s) = false
is_keyword v kinds.End = false

abbrev pub is_sign : Sign → Kind → Bool
is_sign v (kinds.Keyword w) = false
is_sign v kinds.Name = false
is_sign v kinds.Number = false
is_sign v kinds.Text = false
is_sign v kinds.SysVar = false
is_sign v (kinds.Sign s) = same_sign v s
is_sign v kinds.End = false

abbrev pub is_comparison : Sign → Bool
is_comparison signs.Equal = true
is_comparison signs.NotEqual = true
is_comparison signs.Less = true
is_comparison signs.Greater = true
is_comparison signs.LessOrEqual = true
is_comparison signs.GreaterOrEqual = true
is_comparison signs.OpenParen = false
is_comparison signs.CloseParen = false
is_comparison signs.Comma = false
is_comparison signs.Semicolon = false
is_comparison signs.Star = false
is_comparison signs.Minus = false

abbrev pub compares : Kind → Bool
compares (kinds.Keyword w) = false
compares kinds.Name = false
compares kinds.Number = false
compares kinds.Text = false
compares kinds.SysVar = false
compares (kinds.Sign s) = is_comparison s
compares kinds.End = false

-- the order of the kinds that have no part
abbrev pub kind_number : Kind → ℕ
kind_number (kinds.Keyword w) = 0
kind_number kinds.Name = 1
kind_number kinds.Number = 2
kind_number kinds.Text = 3
kind_number kinds.SysVar = 4
kind_number (kinds.Sign s) = 5
kind_number kinds.End = 6

-- a token of this kind is of the class
abbrev pub fits : Class → Kind → Bool
fits (the_keyword w) k = is_keyword w k
fits any_name k = is_name k
fits (name_but v w) k = is_name k && not (is_keyword v k) && not (is_keyword w k)
fits a_number k = kind_number k == 2
fits a_text k = kind_number k == 3
fits a_sysvar k = kind_number k == 4
fits (the_sign s) k = is_sign s k
fits a_comparison k = compares k
fits the_end k = kind_number k == 6

-- some token may be of both classes
abbrev pub meets : Class → Class → Bool
meets (the_keyword v) (the_keyword w) = same_keyword v w
meets (the_keyword v) any_name = not (is_reserved v)
meets (the_keyword v) (name_but a b) = fits (name_but a b) (kinds.Keyword v)
meets any_name (the_keyword w) = not (is_reserved w)
meets any_name any_name = true
meets any_name (name_but a b) = true
meets (name_but a b) (the_keyword w) = fits (name_but a b) (kinds.Keyword w)
meets (name_but a b) any_name = true
meets (name_but a b) (name_but c d) = true
meets a_number a_number = true
meets a_text a_text = true
meets a_sysvar a_sysvar = true
meets (the_sign v) (the_sign w) = same_sign v w
meets (the_sign v) a_comparison = is_comparison v
meets a_comparison (the_sign w) = is_comparison w
meets a_comparison a_comparison = true
meets the_end the_end = true
meets _ _ = false

-- each token of the first class is one of the second
abbrev pub within : Class → Class → Bool
within (the_keyword v) d = fits d (kinds.Keyword v)
within (the_sign v) d = fits d (kinds.Sign v)
within any_name any_name = true
within (name_but a b) any_name = true
within a_number a_number = true
within a_text a_text = true
within a_sysvar a_sysvar = true
within a_comparison a_comparison = true
within the_end the_end = true
within _ _ = false
