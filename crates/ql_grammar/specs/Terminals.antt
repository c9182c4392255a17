-- The grammar, line by line.
use Rattle.ql_lex.specs.declared.token.Sign.{Sign}
use Rattle.ql_lex.specs.declared.token.Sign.TheVariants as signs
use Rattle.ql_grammar.specs.declared.keyword.Keyword.{Keyword}
use Rattle.ql_grammar.specs.declared.keyword.Keyword.TheVariants as keywords
use Rattle.ql_grammar.specs.Classes.{Class, the_keyword, any_name, name_but, a_number, a_text, a_sysvar, the_sign}
use Rattle.token_grammar.specs.Language.{Re, one, ◌⨾◌, ◌∣◌}

abbrev pub keyword : Keyword → Re Class
keyword w = one (the_keyword w)

-- two keywords in a row
abbrev pub two_keywords : Keyword → Keyword → Re Class
two_keywords v w = keyword v ⨾ keyword w

abbrev pub sign : Sign → Re Class
sign s = one (the_sign s)

abbrev pub name : Re Class
name = one any_name

abbrev pub number : Re Class
number = one a_number

abbrev pub text : Re Class
text = one a_text

abbrev pub sysvar : Re Class
sysvar = one a_sysvar

abbrev pub comma : Class
comma = the_sign signs.Comma

-- a part in parentheses
abbrev pub enclosed : Re Class → Re Class
enclosed r = sign signs.OpenParen ⨾ r ⨾ sign signs.CloseParen

-- [-] n
abbrev pub whole : Re Class
whole = sign signs.Minus ⨾ number ∣ number

-- a name that is neither AUTOCOMMIT nor NAMES
abbrev pub target_name : Re Class
target_name = one (name_but keywords.Autocommit keywords.Names)
