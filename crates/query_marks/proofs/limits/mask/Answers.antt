use Rattle.std.proofs.Common.{◌<◌, ◌≤◌, ◌^◌, length, drop, arith, length-drop}
use Rattle.query_marks.specs.Limits.{mask, keeps}
use Rattle.query_marks.proofs.Masks.{mask_below}
use Rattle.query_marks.proofs.limits.mask.Goals as goal

pub overflow_mul-mask : goal.overflow_mul-mask
overflow_mul-mask c =
    let few : length (drop c.fields.k c.args.fields.now) ≤ 31 = omega (arith, length-drop c.fields.k c.args.fields.now, c.requires, c.fields-test.true) in
    let small : mask (keeps c.args.text.now c.args.negated c.args.names) (drop c.fields.k c.args.fields.now) < 2 ^ 31 = mask_below _ _ 31 few in
    omega (arith, small, c.fields.invariant.is)

pub overflow_add-mask : goal.overflow_add-mask
overflow_add-mask c =
    let few : length (drop c.fields.k c.args.fields.now) ≤ 31 = omega (arith, length-drop c.fields.k c.args.fields.now, c.requires, c.fields-test.true) in
    let small : mask (keeps c.args.text.now c.args.negated c.args.names) (drop c.fields.k c.args.fields.now) < 2 ^ 31 = mask_below _ _ 31 few in
    omega (arith, small, c.fields.invariant.is)
