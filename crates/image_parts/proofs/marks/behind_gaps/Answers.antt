use Rattle.std.proofs.Common.{◌++◌, length, arith, length-append}
use Rattle.image_parts.proofs.FieldSteps.{passed}
use Rattle.image_parts.proofs.marks.behind_gaps.Goals as goal

pub next_number-count-requires : goal.next_number-count-requires
next_number-count-requires c = let r = c.requires in (length r.0, r.0 ++ r.1, r.2)

pub behind_numbers-requires : goal.behind_numbers-requires
behind_numbers-requires c =
    let r = c.requires in
    let its = c.next_number-count.ensures (length r.0) (r.0 ++ r.1) r.2 in
    (r.0 ++ r.1, its.1, omega (arith, its.0, length-append r.0 r.1))

pub returns : goal.returns
returns c = λ numbers others are.
    let its = c.next_number-count.ensures (length numbers) (numbers ++ others) are in
    passed c.args.bytes.now _ c.next_number-count.result.0 numbers others its.0 (c.behind_numbers.ensures (numbers ++ others) its.1 (omega (arith, its.0, length-append numbers others)))
