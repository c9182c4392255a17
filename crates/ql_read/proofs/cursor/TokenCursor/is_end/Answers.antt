use Rattle.std.proofs.Common.{length, sym, ap, ◌∙◌}
use Rattle.ql_grammar.specs.Tokens.{lexemes}
use Rattle.ql_read.proofs.Cursors.{end_is_last}
use Rattle.ql_read.proofs.cursor.TokenCursor.is_end.Goals as goal

pub returns-in-End-clause-last : goal.returns-in-End-clause-last
returns-in-End-clause-last c = λ yes. sym (ap length c.self.view_is) ∙ end_is_last (lexemes c.self.inside.rest.now) c.self.invariant.0 (sym c.self.invariant.1 ∙ c.in-End.is)
