use Rattle.std.proofs.Common.{sym, ◌∙◌, arith}
use Rattle.ql_lex.proofs.Enclosed.{QuotesAt}
use Rattle.ql_lex.proofs.NameTokens.{quoted_token, quoted_long}
use Rattle.ql_lex.proofs.BadBytes.{quoted_bad}
use Rattle.ql_lex.proofs.names.quoted_at.Goals as goal

pub returns-then-not-is_name : goal.returns-then-not-is_name
returns-then-not-is_name c =
    let quotes : QuotesAt 96 c.args.text.now c.args.at c.in-Some.last = record { before = omega (arith, c.in-Some.ensures.found.0); within = c.in-Some.ensures.found.1; opens = c.requires.backquote; closes = c.in-Some.ensures.found.2 } in
    quoted_bad c.args.text.now c.args.at c.in-Some.last quotes c.in-Some.ensures.next (sym c.is_name.ensures ∙ c.if-not-is_name.true)

pub returns-then-name-le-MAX_NAME_BYTES : goal.returns-then-name-le-MAX_NAME_BYTES
returns-then-name-le-MAX_NAME_BYTES c =
    let quotes : QuotesAt 96 c.args.text.now c.args.at c.in-Some.last = record { before = omega (arith, c.in-Some.ensures.found.0); within = c.in-Some.ensures.found.1; opens = c.requires.backquote; closes = c.in-Some.ensures.found.2 } in
    quoted_token c.args.text.now c.args.at c.in-Some.last quotes (sym c.is_name.ensures ∙ c.if-not-is_name.false) c.if-name-le-MAX_NAME_BYTES.true

pub returns-else-name-le-MAX_NAME_BYTES : goal.returns-else-name-le-MAX_NAME_BYTES
returns-else-name-le-MAX_NAME_BYTES c =
    let quotes : QuotesAt 96 c.args.text.now c.args.at c.in-Some.last = record { before = omega (arith, c.in-Some.ensures.found.0); within = c.in-Some.ensures.found.1; opens = c.requires.backquote; closes = c.in-Some.ensures.found.2 } in
    quoted_long c.args.text.now c.args.at c.in-Some.last quotes (sym c.is_name.ensures ∙ c.if-not-is_name.false) c.if-name-le-MAX_NAME_BYTES.false
