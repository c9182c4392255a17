use Rattle.std.proofs.Common.{◌-◌, arith}
use Rattle.image_parts.proofs.RowFinding.{past}
use Rattle.image_parts.proofs.parts.Parts.is_past.Goals as goal

pub returns : goal.returns
returns c = λ less rows words have are.
    past rows words c.args.image.now c.args.id (c.args.self.rows - 1) c.id-last.result have (omega (arith, are.rows_n, c.if-self-eq0.false)) (c.id-last.ensures rows words have are) less
