use Rattle.std.proofs.Common.{List, subst}
use Rattle.ql_lex.specs.declared.token.Token.{Token}
use Rattle.ql_grammar.specs.Tokens.{lexemes}
use Rattle.ql_session.specs.steps.Running.{ReadsTokens}
use Rattle.ql_session.proofs.Reading.{reads_by}
use Rattle.ql_session.proofs.texts.statements.Goals as goal

pub returns-in-Ok : goal.returns-in-Ok
returns-in-Ok c =
    reads_by c.args.text.now (lexemes c.in-Ok.tokens.items) c.parsed.result c.in-Ok.ensures.0
    (subst (λ (tokens : List Token). ReadsTokens (lexemes tokens) c.parsed.result) c.deref.ensures.value c.parsed.ensures)
