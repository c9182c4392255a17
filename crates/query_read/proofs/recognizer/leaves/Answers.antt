use Rattle.token_grammar.proofs.Rows.{plain_first}
use Rattle.query_read.proofs.RecognizedRows.{stops_with}
use Rattle.query_read.proofs.RecognizedParts.{after_sentence, after_paragraph}
use Rattle.query_read.proofs.recognizer.leaves.Goals as goal

pub returns-in_err-expect : goal.returns-in_err-expect
returns-in_err-expect c = stops_with _ c.from_residual.result c.from_residual.ensures.1 (plain_first c.in_err-expect.ensures)

pub returns-then-is_next : goal.returns-then-is_next
returns-then-is_next c = after_sentence _ c.joined.result c.in_ok-expect.ensures c.if-is_next.ensures c.joined.ensures

pub returns-else-is_next : goal.returns-else-is_next
returns-else-is_next c = after_paragraph _ c.joined-else-is_next.result c.in_ok-expect.ensures c.if-is_next.ensures c.joined-else-is_next.ensures
