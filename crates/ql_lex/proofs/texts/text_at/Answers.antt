use Rattle.std.proofs.Common.{refl, arith}
use Rattle.ql_lex.proofs.TextTokens.{EndsAt, text_token, text_other, text_open}
use Rattle.ql_lex.proofs.texts.text_at.Goals as goal

pub returns-in_default : goal.returns-in_default
returns-in_default c = text_open c.args.text.now c.args.at c.requires.quote c.in_default.ensures.none

pub returns-in-Ok : goal.returns-in-Ok
returns-in-Ok c =
    let ends : EndsAt c.args.text.now c.args.at c.in-Some.last = record {
      quote = c.requires.quote;
      quotes = record { before = omega (arith, c.in-Some.ensures.place.0); within = c.in-Some.ensures.place.1; opens = refl; closes = c.in-Some.ensures.place.2 };
      inner = c.in-Some.ensures.inner;
    } in
    text_token c.args.text.now c.args.at c.in-Some.last ends c.in-Ok.ensures.cases.1

pub returns-in-Err : goal.returns-in-Err
returns-in-Err c =
    let ends : EndsAt c.args.text.now c.args.at c.in-Some.last = record {
      quote = c.requires.quote;
      quotes = record { before = omega (arith, c.in-Some.ensures.place.0); within = c.in-Some.ensures.place.1; opens = refl; closes = c.in-Some.ensures.place.2 };
      inner = c.in-Some.ensures.inner;
    } in
    text_other c.args.text.now c.args.at c.in-Some.last ends c.in-Err.ensures.cases.0
