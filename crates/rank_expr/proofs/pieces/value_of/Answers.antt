use Rattle.std.proofs.Common.{◌≡◌, ◌+◌, ◌*◌, ◌-◌, get_or, take, arith, ap, sym, ◌∙◌}
use Rattle.std.specs.Str.Parse.{digits_value}
use Rattle.std.proofs.lemmas.List.{take_all}
use Rattle.rank_expr.proofs.NumberValues.{value_more, value_grows}
use Rattle.rank_expr.proofs.pieces.value_of.Goals as goal

pub returns-in_err-checked_mul : goal.returns-in_err-checked_mul
returns-in_err-checked_mul c =
    let more = value_more c.args.digits.now c.loop-byte.byte-index c.requires c.loop-byte-test.true in
    rw c.from_residual.ensures (λ fits. c.in_err-checked_mul.ensures (omega (arith, more, c.loop-byte.invariant.is, value_grows c.args.digits.now (c.loop-byte.byte-index + 1))))

pub returns-in_err-value : goal.returns-in_err-value
returns-in_err-value c =
    let more = value_more c.args.digits.now c.loop-byte.byte-index c.requires c.loop-byte-test.true in
    rw c.from_residual-in_err-value.ensures (λ fits. c.in_err-value.ensures (omega (arith, more, c.loop-byte.invariant.is, c.in_ok-checked_mul.ensures, c.from.ensures, value_grows c.args.digits.now (c.loop-byte.byte-index + 1))))

pub loop-byte-preserved : goal.loop-byte-preserved
loop-byte-preserved c =
    let more = value_more c.args.digits.now c.loop-byte.byte-index c.requires c.loop-byte-test.true in
    let is : c.in_ok-value.value ≡ digits_value 10 (take c.loop-byte.byte-index c.args.digits.now) * 10 + (get_or c.args.digits.now c.loop-byte.byte-index 0 - 48) = omega (arith, c.loop-byte.invariant.is, c.in_ok-checked_mul.ensures, c.from.ensures, c.in_ok-value.ensures) in
    record { is = is ∙ sym more; fits = omega (arith, c.in_ok-value.ensures) }

pub returns : goal.returns
returns c =
    let is : c.loop-byte.value ≡ digits_value 10 c.args.digits.now = c.loop-byte.invariant.is ∙ ap (digits_value 10) (take_all c.loop-byte.byte-index c.args.digits.now (omega arith)) in
    (omega (arith, is, c.loop-byte.invariant.fits), is)
