use Rattle.doc_tokens.proofs.Unique.{tokens_unique, not_too_long}
use Rattle.doc_tokens.proofs.laws.a_text_has_one_answer.Goals as goal

pub returns-clause-same : goal.returns-clause-same
returns-clause-same c = tokens_unique

pub returns-clause-apart : goal.returns-clause-apart
returns-clause-apart c = not_too_long
