use Rattle.ql_read.proofs.Steps.{takes_sign}
use Rattle.token_grammar.proofs.Rows.{fails_at}
use Rattle.ql_read.proofs.cursor.TokenCursor.sign.Goals as goal

pub returns-then-is_sign : goal.returns-then-is_sign
returns-then-is_sign c = takes_sign c.if-is_sign.ensures c.skip.ensures.next

pub returns-else-is_sign : goal.returns-else-is_sign
returns-else-is_sign c = fails_at c.if-is_sign.ensures c.place.ensures
