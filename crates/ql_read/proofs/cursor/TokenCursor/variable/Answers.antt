use Rattle.std.proofs.Common.{refl, sym, subst, ap, ◌∙◌}
use Rattle.std.specs.Str.{str_to_ascii_lowercase}
use Rattle.ql_lex.specs.declared.token.TokenKind.{TokenKind}
use Rattle.ql_lex.specs.Shapes.{IsLexeme, IsNamed}
use Rattle.ql_lex.specs.Tokens.{lexeme_of}
use Rattle.ql_grammar.specs.Tokens.{kind}
use Rattle.ql_read.proofs.Cursors.{variable_form}
use Rattle.token_grammar.proofs.Rows.{takes_next, fails_at, fits_next}
use Rattle.ql_grammar.proofs.ClassKinds.{variable_is}
use Rattle.ql_read.proofs.cursor.TokenCursor.variable.Goals as goal

pub token_name-requires : goal.token_name-requires
token_name-requires c =
    let token = c.skip-token.result.now in
    let form = variable_form token.kind token.text.now (variable_is (kind (lexeme_of token)) (fits_next c.if-is_variable.ensures c.skip-token.ensures.next)) in
    let named = subst (λ (f : TokenKind). IsLexeme f token.text.now) form c.skip-token.ensures.lexeme in
    subst (λ (f : TokenKind). IsNamed f token.text.now) (sym form) named.0

pub returns-in_ok-small_name : goal.returns-in_ok-small_name
returns-in_ok-small_name c =
    takes_next c.if-is_variable.ensures c.skip-token.ensures.next (λ fit. (lexeme_of c.skip-token.result.now, refl, (variable_is (kind (lexeme_of c.skip-token.result.now)) fit, c.in_ok-small_name.ensures ∙ ap str_to_ascii_lowercase c.token_name.ensures)))

pub returns-else-is_variable : goal.returns-else-is_variable
returns-else-is_variable c = fails_at c.if-is_variable.ensures c.place.ensures
