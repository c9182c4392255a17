use Rattle.std.proofs.Common.{sym, ap, ◌∙◌}
use Rattle.ql_grammar.specs.Classes.{is_keyword}
use Rattle.ql_grammar.proofs.KeywordEquality.{compared}
use Rattle.ql_read.proofs.cursor.TokenCursor.is_keyword.Goals as goal

pub returns-in-Keyword : goal.returns-in-Keyword
returns-in-Keyword c = record { next = c.kind.ensures.next; rest = c.kind.ensures.rest; is = c.kind.ensures.is; fits = ap (is_keyword c.args.keyword) (c.kind.ensures.kind_is ∙ c.in-Keyword.is) ∙ sym (compared c.args.keyword c.in-Keyword.next) ∙ sym c.eq.ensures }
