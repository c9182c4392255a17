use Rattle.std.proofs.Common.{◌+◌, arith, get_or, drop}
use Rattle.image_parts.proofs.NumberSteps.{next_there}
use Rattle.image_parts.proofs.numbers.behind_numbers.Goals as goal

pub next_number-place-requires : goal.next_number-place-requires
next_number-place-requires c =
    let r = c.requires in
    (get_or r.0 c.numbers.counter 0, drop (c.numbers.counter + 1) r.0, next_there c.args.bytes.now c.numbers.place r.0 c.numbers.counter (omega (arith, r.2)) (c.numbers.invariant r.0 r.1 r.2))

pub numbers-preserved : goal.numbers-preserved
numbers-preserved c = λ numbers are low.
    (c.next_number-place.ensures (get_or numbers c.numbers.counter 0) (drop (c.numbers.counter + 1) numbers) (next_there c.args.bytes.now c.numbers.place numbers c.numbers.counter (omega (arith, low)) (c.numbers.invariant numbers are low))).1
