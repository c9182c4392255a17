use Rattle.ql_lex.specs.Shapes.{inside}
use Rattle.ql_lex.proofs.TextValues.{unescaped_utf8}
use Rattle.ql_lex.proofs.values.text_values_are_utf8.Goals as goal

pub returns : goal.returns
returns c = λ token utf8. unescaped_utf8 (inside token) utf8
