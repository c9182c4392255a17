use Rattle.image_parts.proofs.NumberSteps.{behind_first, first_there, others_there}
use Rattle.image_parts.proofs.numbers.next_number.Goals as goal

pub number_at-requires : goal.number_at-requires
number_at-requires c =
    let r = c.requires in
    (r.0, behind_first c.args.bytes.now c.args.at r.0 r.1, first_there c.args.bytes.now c.args.at r.0 r.1 r.2)

pub returns : goal.returns
returns c = λ n others are.
    let its = c.number_at.ensures n (behind_first c.args.bytes.now c.args.at n others) (first_there c.args.bytes.now c.args.at n others are) in
    (its.0, others_there c.args.bytes.now c.args.at _ n others are its.1)
