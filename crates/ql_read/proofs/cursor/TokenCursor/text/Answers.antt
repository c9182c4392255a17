use Rattle.std.proofs.Common.{◌++◌, refl, ap, ◌∙◌, subst}
use Rattle.ql_lex.specs.declared.token.TokenKind.{TokenKind}
use Rattle.ql_lex.specs.Shapes.{IsLexeme}
use Rattle.ql_lex.specs.Values.{text_of}
use Rattle.ql_lex.specs.Tokens.{lexeme_of}
use Rattle.ql_grammar.specs.Tokens.{kind}
use Rattle.ql_read.proofs.Cursors.{text_form}
use Rattle.token_grammar.proofs.Rows.{takes_next, fails_at, fits_next}
use Rattle.ql_grammar.proofs.ClassKinds.{text_is}
use Rattle.ql_read.proofs.cursor.TokenCursor.text.Goals as goal

pub put_text-requires : goal.put_text-requires
put_text-requires c =
    let token = c.skip-token.result.now in
    let form = text_form token.kind token.text.now (text_is (kind (lexeme_of token)) (fits_next c.if-is_text.ensures c.skip-token.ensures.next)) in
    let quoted = subst (λ (f : TokenKind). IsLexeme f token.text.now) form c.skip-token.ensures.lexeme in
    quoted.0

pub returns-in_ok-put_text : goal.returns-in_ok-put_text
returns-in_ok-put_text c =
    takes_next c.if-is_text.ensures c.skip-token.ensures.next (λ fit. (lexeme_of c.skip-token.result.now, refl, (text_is (kind (lexeme_of c.skip-token.result.now)) fit, c.new.ensures ∙ c.in_ok-put_text.ensures.ok ∙ ap (λ bytes. bytes ++ text_of c.skip-token.result.now.text.now) c.new-bytes.ensures.items)))

pub returns-else-is_text : goal.returns-else-is_text
returns-else-is_text c = fails_at c.if-is_text.ensures c.place.ensures
