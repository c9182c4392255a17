use Rattle.ql_lex.proofs.SpacedTokens.{spaced_tokens}
use Rattle.ql_lex.proofs.spacing.spaced_tokens_are_read.Goals as goal

pub returns : goal.returns
returns c = spaced_tokens
