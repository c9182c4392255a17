use Rattle.std.proofs.Common.{refl, ap, ◌∙◌}
use Rattle.std.specs.Str.{str_to_ascii_lowercase}
use Rattle.ql_lex.specs.Tokens.{lexeme_of}
use Rattle.ql_read.proofs.Cursors.{named}
use Rattle.token_grammar.proofs.Rows.{takes_next, fails_at, fits_next}
use Rattle.ql_read.proofs.cursor.TokenCursor.name.Goals as goal

pub token_name-requires : goal.token_name-requires
token_name-requires c =
    let token = c.skip-token.result.now in
    named token.kind token.text.now (fits_next c.if-is_name.ensures c.skip-token.ensures.next) c.skip-token.ensures.lexeme

pub returns-in_ok-small_name : goal.returns-in_ok-small_name
returns-in_ok-small_name c =
    takes_next c.if-is_name.ensures c.skip-token.ensures.next (λ fit. (lexeme_of c.skip-token.result.now, refl, (fit, c.in_ok-small_name.ensures ∙ ap str_to_ascii_lowercase c.token_name.ensures)))

pub returns-else-is_name : goal.returns-else-is_name
returns-else-is_name c = fails_at c.if-is_name.ensures c.place.ensures
