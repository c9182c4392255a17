use Rattle.std.proofs.Common.{arith}
use Rattle.image_rows.proofs.Undamaged.{undamaged}
use Rattle.chunk_open.proofs.opening.look.Goals as goal

pub returns-in-Ok : goal.returns-in-Ok
returns-in-Ok c = undamaged c.args.schema.now c.args.image.now (λ i. omega (arith, c.type_inv.image i)) c.requires c.in-Ok.ensures
