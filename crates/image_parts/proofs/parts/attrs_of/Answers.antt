use Rattle.std.proofs.Common.{arith}
use Rattle.image_parts.proofs.HeaderRead.{header, header_fits}
use Rattle.image_parts.proofs.parts.attrs_of.Goals as goal

pub u16_in-requires : goal.u16_in-requires
u16_in-requires c = omega (arith, (header_fits c.requires.0 c.requires.1 c.args.image.now c.requires.2).long)

pub returns : goal.returns
returns c = λ rows words have k row low. omega (arith, c.u16_in.ensures, (header rows words c.args.image.now have).row_size k row low)
