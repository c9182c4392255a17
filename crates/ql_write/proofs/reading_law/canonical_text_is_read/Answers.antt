use Rattle.ql_write.proofs.CanonicalStatements.{text_reads, only_reading}
use Rattle.ql_write.proofs.reading_law.canonical_text_is_read.Goals as goal

pub returns-clause-reads : goal.returns-clause-reads
returns-clause-reads c = text_reads c.spaced_tokens_are_read.ensures

pub returns-clause-only : goal.returns-clause-only
returns-clause-only c = only_reading c.spaced_tokens_are_read.ensures c.one_reading.ensures.tokens
