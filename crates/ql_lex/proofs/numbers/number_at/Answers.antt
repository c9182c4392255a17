use Rattle.std.proofs.Common.{◌+◌, sym, ◌∙◌, arith}
use Rattle.ql_lex.proofs.NumberValues.{number_run, number_digits}
use Rattle.ql_lex.proofs.numbers.number_at.Goals as goal

pub value_of-requires : goal.value_of-requires
value_of-requires c = number_digits c.args.text.now c.args.at c.digits_len.result c.requires.within c.requires.digit c.digits_len.ensures.len

pub returns-in-None : goal.returns-in-None
returns-in-None c =
    let run = number_run c.args.text.now c.args.at c.digits_len.result c.requires.within c.requires.digit c.digits_len.ensures.len in
    record {
      to = c.args.at + c.digits_len.result;
      within = run.within;
      digits = number_digits c.args.text.now c.args.at c.digits_len.result c.requires.within c.requires.digit c.digits_len.ensures.len;
      all = run.stops;
      above = omega (arith, c.in-None.ensures);
    }

pub returns-in-Some : goal.returns-in-Some
returns-in-Some c = record {
  to = c.args.at + c.digits_len.result;
  digits = number_digits c.args.text.now c.args.at c.digits_len.result c.requires.within c.requires.digit c.digits_len.ensures.len;
  point = sym c.byte_at.ensures ∙ c.if-byte_at-eq46.true;
  fits = c.in-Some.ensures.0;
}

pub returns-in-Some-2 : goal.returns-in-Some-2
returns-in-Some-2 c =
    let run = number_run c.args.text.now c.args.at c.digits_len.result c.requires.within c.requires.digit c.digits_len.ensures.len in
    record {
      within = run.within;
      lexeme = (number_digits c.args.text.now c.args.at c.digits_len.result c.requires.within c.requires.digit c.digits_len.ensures.len, c.in-Some.ensures.0);
      whole = (run.stops, λ point. c.if-byte_at-eq46.false (c.byte_at.ensures ∙ point));
    }
