use Rattle.token_grammar.proofs.Rows.{fails_with, plain_first}
use Rattle.query_read.proofs.JoinSteps.{leaf_alone, sentences_joined, paragraphs_joined}
use Rattle.query_read.proofs.joins.leaves.Goals as goal

pub returns-in_err-first : goal.returns-in_err-first
returns-in_err-first c = fails_with _ _ c.from_residual.result c.from_residual.ensures.1 (plain_first c.in_err-first.ensures)

pub returns-then-is_next : goal.returns-then-is_next
returns-then-is_next c = sentences_joined _ c.sentences.result c.in_ok-first.ensures c.if-is_next.ensures c.sentences.ensures

pub returns-then-is_next-2 : goal.returns-then-is_next-2
returns-then-is_next-2 c = paragraphs_joined _ c.paragraphs.result c.in_ok-first.ensures c.if-is_next-2.ensures c.paragraphs.ensures

pub returns-else-is_next-2 : goal.returns-else-is_next-2
returns-else-is_next-2 c = leaf_alone c.in_ok-first.ensures c.if-is_next.ensures c.if-is_next-2.ensures
