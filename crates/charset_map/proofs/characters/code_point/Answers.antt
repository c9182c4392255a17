use Rattle.std.proofs.Common.{◌≡◌, ◌<◌, get_or, arith, rules, sym, subst, ℕ}
use Rattle.std.specs.Char.{digit_value}
use Rattle.std.proofs.lemmas.Int.Digits.{digits_value_more, digits_more}
use Rattle.charset_map.proofs.CharacterLemmas.{code_below, no_code}
use Rattle.charset_map.proofs.characters.code_point.Goals as goal

pub overflow_mul-code : goal.overflow_mul-code
overflow_mul-code c =
    let l = c.loop-digit in
    omega (arith, l.invariant.value, code_below c.args.digits.now l.digit-index c.loop-digit-test.true l.invariant.few l.invariant.hexadecimal)

pub overflow_add-code : goal.overflow_add-code
overflow_add-code c =
    let l = c.loop-digit in
    omega (arith, l.invariant.value, c.in-Some.ensures.value.0, c.in-Some.ensures.value.1, code_below c.args.digits.now l.digit-index c.loop-digit-test.true l.invariant.few l.invariant.hexadecimal)

pub returns-in-None : goal.returns-in-None
returns-in-None c =
    let is : c.from.result ≡ get_or c.args.digits.now c.loop-digit.digit-index 0 = search rules in
    no_code c.args.digits.now c.loop-digit.digit-index c.loop-digit-test.true (subst (λ (b : ℕ). ¬ (digit_value b < 16)) is c.in-None.ensures.value)

pub loop-digit-preserved : goal.loop-digit-preserved
loop-digit-preserved c =
    let l = c.loop-digit in
    let is : c.from.result ≡ get_or c.args.digits.now l.digit-index 0 = search rules in
    let digit : digit_value (get_or c.args.digits.now l.digit-index 0) < 16 = subst (λ (b : ℕ). digit_value b < 16) is c.in-Some.ensures.value.0 in
    let worth : digit_value (get_or c.args.digits.now l.digit-index 0) ≡ c.in-Some.value = subst (λ (b : ℕ). digit_value b ≡ c.in-Some.value) is (sym c.in-Some.ensures.value.1) in
    record {
      few = l.invariant.few;
      some = l.invariant.some;
      hexadecimal = digits_more 16 c.args.digits.now l.digit-index c.loop-digit-test.true l.invariant.hexadecimal digit;
      value = omega (arith, l.invariant.value, worth, digits_value_more 16 c.args.digits.now l.digit-index c.loop-digit-test.true);
    }
