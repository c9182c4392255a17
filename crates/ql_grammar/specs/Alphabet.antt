-- The tokens of SphinxQL, and the classes by which its grammar names them.
use Rattle.token_grammar.specs.Alphabets.{Alphabet}
use Rattle.ql_lex.specs.Tokens.{Lexeme}
use Rattle.ql_grammar.specs.Tokens.{kind}
use Rattle.ql_grammar.specs.Classes.{Class, fits, meets, within}
use Rattle.ql_grammar.specs.ClassLaws.{some_token, meeting, inside}

abbrev pub sphinxql : Alphabet Class Lexeme
sphinxql = record { fits = λ c t. fits c (kind t); meets = meets; within = within; at = λ t. t.at; some = some_token; meeting = meeting; inside = inside }
