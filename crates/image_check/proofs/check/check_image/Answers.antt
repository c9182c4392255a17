use Rattle.std.proofs.Common.{arith}
use Rattle.image_check.specs.Begun.{IsBegun}
use Rattle.image_check.proofs.Damages.{row_small}
use Rattle.image_check.proofs.check.check_image.Goals as goal

pub damage-requires : goal.damage-requires
damage-requires c =
    let begun : IsBegun c.args.schema.now c.args.image.now c.in-Ok.sizes = record { limits = c.requires; short = omega (arith, c.if-image-gt-MAX_IMAGE.false); head = c.in-Ok.ensures } in
    row_small c.args.schema.now c.args.image.now c.in-Ok.sizes begun c.in-Some.row c.len.result c.len.ensures c.in-Some.ensures.0
