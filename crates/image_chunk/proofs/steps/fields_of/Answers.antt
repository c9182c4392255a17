use Rattle.image_chunk.proofs.Stepping.{passed, hits_here}
use Rattle.image_chunk.proofs.steps.fields_of.Goals as goal

pub number_at-start-requires : goal.number_at-start-requires
number_at-start-requires c =
    let h = c.requires.here in
    (_, _, (passed c.args.list.now c.args.at c.args.index h.0 h.1 c.requires.small h.2).sized)

pub hit_fields-requires : goal.hit_fields-requires
hit_fields-requires c =
    let h = c.requires.here in
    let p = passed c.args.list.now c.args.at c.args.index h.0 h.1 c.requires.small h.2 in
    (h.0.1, _, hits_here c.args.list.now c.args.at c.args.index c.number_at-start.result.1 h.0 h.1 c.requires.small h.3 h.2 (c.number_at-start.ensures _ _ p.sized).1)

pub returns : goal.returns
returns c = λ entry entries here are.
    let p = passed c.args.list.now c.args.at c.args.index entry entries c.requires.small here in
    c.hit_fields.ensures _ _ (hits_here c.args.list.now c.args.at c.args.index c.number_at-start.result.1 entry entries c.requires.small are here (c.number_at-start.ensures _ _ p.sized).1)
