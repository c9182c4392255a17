use Rattle.std.proofs.Common.{refl, subst}
use Rattle.ql_lex.specs.declared.token.TokenKind.{TokenKind}
use Rattle.ql_lex.specs.Shapes.{IsLexeme}
use Rattle.ql_lex.specs.Tokens.{lexeme_of}
use Rattle.ql_grammar.specs.Tokens.{kind}
use Rattle.ql_read.proofs.Cursors.{number_form}
use Rattle.token_grammar.proofs.Rows.{takes_next, fails_at, fits_next}
use Rattle.ql_grammar.proofs.ClassKinds.{number_is}
use Rattle.ql_read.proofs.cursor.TokenCursor.number.Goals as goal

pub number_of-requires : goal.number_of-requires
number_of-requires c =
    let token = c.skip-token.result.now in
    let form = number_form token.kind token.text.now (number_is (kind (lexeme_of token)) (fits_next c.if-is_number.ensures c.skip-token.ensures.next)) in
    subst (λ (f : TokenKind). IsLexeme f token.text.now) form c.skip-token.ensures.lexeme

pub returns-then-is_number : goal.returns-then-is_number
returns-then-is_number c =
    takes_next c.if-is_number.ensures c.skip-token.ensures.next (λ fit. (lexeme_of c.skip-token.result.now, refl, (number_is (kind (lexeme_of c.skip-token.result.now)) fit, c.number_of.ensures)))

pub returns-else-is_number : goal.returns-else-is_number
returns-else-is_number c = fails_at c.if-is_number.ensures c.place.ensures
