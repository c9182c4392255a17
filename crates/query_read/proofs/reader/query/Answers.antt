use Rattle.token_grammar.proofs.Rows.{fails_at}
use Rattle.query_read.proofs.WholeQuery.{relaxed_taken, expr_fails, end_fails, whole_query, stops_whole, stops_with}
use Rattle.srch_base.specs.declared.faults.Or.TheVariants.{Fault}
use Rattle.query_read.proofs.reader.query.Goals as goal

pub returns-in_err-node : goal.returns-in_err-node
returns-in_err-node c = stops_with c.from_residual.result c.from_residual.ensures.1 (expr_fails 32 (relaxed_taken c.takes.result c.takes.ensures) c.in_err-node.ensures)

pub returns-then-is_end : goal.returns-then-is_end
returns-then-is_end c = whole_query 32 (relaxed_taken c.takes.result c.takes.ensures) c.in_ok-node.ensures c.if-is_end.ensures.next c.if-is_end.ensures.ended

pub returns-else-is_end : goal.returns-else-is_end
returns-else-is_end c = stops_whole (Fault c.place.result) (end_fails 32 (relaxed_taken c.takes.result c.takes.ensures) c.in_ok-node.ensures (fails_at c.if-is_end.ensures.next c.place.ensures))
