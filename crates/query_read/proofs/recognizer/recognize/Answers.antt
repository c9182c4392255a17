use Rattle.srch_base.specs.declared.faults.Or.TheVariants.{Fault}
use Rattle.token_grammar.proofs.Rows.{fails_at}
use Rattle.query_read.proofs.WholeQuery.{relaxed_taken, expr_fails, end_fails, stops_whole}
use Rattle.query_read.proofs.RecognizedParts.{whole}
use Rattle.query_read.proofs.recognizer.recognize.Goals as goal

pub returns-in-Err : goal.returns-in-Err
returns-in-Err c = stops_whole (Fault c.in-Err.place) (expr_fails 32 (relaxed_taken c.takes.result c.takes.ensures) c.in-Err.ensures)

pub returns-then-is_end : goal.returns-then-is_end
returns-then-is_end c = whole (relaxed_taken c.takes.result c.takes.ensures) c.in_default.ensures c.if-is_end.ensures.next c.if-is_end.ensures.ended

pub returns-else-is_end : goal.returns-else-is_end
returns-else-is_end c = stops_whole (Fault c.place.result) (end_fails 32 (relaxed_taken c.takes.result c.takes.ensures) c.in_default.ensures (fails_at c.if-is_end.ensures.next c.place.ensures))
