use Rattle.std.proofs.Common.{ap, sym, ◌∙◌}
use Rattle.ql_grammar.specs.Classes.{fits, the_sign}
use Rattle.token_grammar.specs.Reading.{unlike}
use Rattle.token_grammar.proofs.Lookahead.{followed_by}
use Rattle.ql_read.proofs.Steps.{second_same}
use Rattle.ql_read.proofs.cursor.TokenCursor.is_followed.Goals as goal

pub returns-then-is_keyword : goal.returns-then-is_keyword
returns-then-is_keyword c = followed_by c.is_the_sign.result c.if-is_keyword.ensures (c.is_the_sign.ensures ∙ ap (fits (the_sign c.args.sign)) c.second.ensures ∙ sym (second_same c.args.sign c.args.self.now))

pub returns-else-is_keyword : goal.returns-else-is_keyword
returns-else-is_keyword c = unlike c.if-is_keyword.ensures
