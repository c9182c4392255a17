use Rattle.token_grammar.specs.steps.Progress.{other}
use Rattle.token_grammar.proofs.Lookahead.{leads_by}
use Rattle.ql_read.proofs.settings.leads.Goals as goal

pub returns-then-is_keyword : goal.returns-then-is_keyword
returns-then-is_keyword c = leads_by c.is_followed.result c.if-is_keyword.ensures c.is_followed.ensures

pub returns-else-is_keyword : goal.returns-else-is_keyword
returns-else-is_keyword c = other c.if-is_keyword.ensures
