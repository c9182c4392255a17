use Rattle.std.proofs.Common.{◌+◌, arith}
use Rattle.std.proofs.lemmas.Str.Parse.{digits_value-take-le}
use Rattle.query_marks.proofs.NumberSteps.{value_more, number_large}
use Rattle.query_marks.proofs.numbers.value_of.Goals as goal

pub returns-then-value-gt65535 : goal.returns-then-value-gt65535
returns-then-value-gt65535 c =
    let more = value_more c.args.digits.now c.loop-digit.digit-index c.requires c.loop-digit-test.true in
    number_large c.args.digits.now (omega (arith, more, c.loop-digit.invariant.is, c.from.ensures, c.if-value-gt65535.true, digits_value-take-le 10 c.args.digits.now (c.loop-digit.digit-index + 1) (omega arith)))

pub loop-digit-preserved : goal.loop-digit-preserved
loop-digit-preserved c =
    let more = value_more c.args.digits.now c.loop-digit.digit-index c.requires c.loop-digit-test.true in
    record { is = omega (arith, more, c.loop-digit.invariant.is, c.from.ensures); within = omega (arith, c.if-value-gt65535.false) }
