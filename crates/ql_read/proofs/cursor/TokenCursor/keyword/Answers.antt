use Rattle.ql_read.proofs.Steps.{takes_keyword}
use Rattle.token_grammar.proofs.Rows.{fails_at}
use Rattle.ql_read.proofs.cursor.TokenCursor.keyword.Goals as goal

pub returns-then-is_keyword : goal.returns-then-is_keyword
returns-then-is_keyword c = takes_keyword c.if-is_keyword.ensures c.skip.ensures.next

pub returns-else-is_keyword : goal.returns-else-is_keyword
returns-else-is_keyword c = fails_at c.if-is_keyword.ensures c.place.ensures
