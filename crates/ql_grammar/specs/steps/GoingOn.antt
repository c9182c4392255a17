-- With which tokens the parts of a SELECT may go on where they could also end.
use Rattle.std.specs.Prelude.{List, [], ◌∷◌}
use Rattle.ql_lex.specs.declared.token.Sign.TheVariants as signs
use Rattle.ql_grammar.specs.declared.keyword.Keyword.TheVariants as keywords
use Rattle.ql_grammar.specs.Classes.{Class, the_keyword, any_name, the_sign}

-- the tokens with which an item may go on
abbrev pub item_goes_on : List Class
item_goes_on = the_sign signs.OpenParen ∷ the_keyword keywords.As ∷ any_name ∷ []

-- .. a sort key
abbrev pub key_goes_on : List Class
key_goes_on = the_sign signs.OpenParen ∷ the_keyword keywords.Asc ∷ the_keyword keywords.Desc ∷ []

-- .. a LIMIT, or where none is
abbrev pub limit_goes_on : List Class
limit_goes_on = the_keyword keywords.Limit ∷ the_sign signs.Comma ∷ []

-- .. a facet
abbrev pub facet_goes_on : List Class
facet_goes_on = the_keyword keywords.Order ∷ the_sign signs.OpenParen ∷ the_keyword keywords.Asc ∷ the_keyword keywords.Desc ∷ limit_goes_on

-- .. a SELECT from an index
abbrev pub select_goes_on : List Class
select_goes_on =
    the_keyword keywords.Where ∷ the_keyword keywords.And ∷ the_keyword keywords.Group ∷ the_keyword keywords.Within ∷ the_keyword keywords.Having
    ∷ the_keyword keywords.Option ∷ the_keyword keywords.Facet ∷ facet_goes_on
