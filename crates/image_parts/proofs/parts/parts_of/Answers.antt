use Rattle.std.proofs.Common.{arith}
use Rattle.image_parts.proofs.HeaderRead.{header_fits, parts_are, table_small}
use Rattle.image_parts.proofs.parts.parts_of.Goals as goal

pub u32_in-rows-requires : goal.u32_in-rows-requires
u32_in-rows-requires c = omega (arith, (header_fits c.requires.0 c.requires.1 c.args.image.now c.requires.2).long)

pub u32_in-words-requires : goal.u32_in-words-requires
u32_in-words-requires c = omega (arith, (header_fits c.requires.0 c.requires.1 c.args.image.now c.requires.2).long)

pub u16_in-requires : goal.u16_in-requires
u16_in-requires c = omega (arith, (header_fits c.requires.0 c.requires.1 c.args.image.now c.requires.2).long)

pub u16_in-requires-2 : goal.u16_in-requires-2
u16_in-requires-2 c = omega (arith, (header_fits c.requires.0 c.requires.1 c.args.image.now c.requires.2).long)

pub u32_in-requires : goal.u32_in-requires
u32_in-requires c = omega (arith, (header_fits c.requires.0 c.requires.1 c.args.image.now c.requires.2).long)

pub u32_in-requires-2 : goal.u32_in-requires-2
u32_in-requires-2 c = omega (arith, (header_fits c.requires.0 c.requires.1 c.args.image.now c.requires.2).long)

pub overflow_add-table : goal.overflow_add-table
overflow_add-table c =
    omega (arith, table_small c.args.image.now c.u32_in-rows.result c.u16_in.result c.u32_in.result c.u32_in-rows.ensures c.u16_in.ensures c.u32_in.ensures (header_fits c.requires.0 c.requires.1 c.args.image.now c.requires.2))

pub returns : goal.returns
returns c = λ rows words have.
    parts_are c.args.image.now c.u32_in-rows.result c.u16_in.result c.u32_in.result c.u32_in-rows.ensures c.u16_in.ensures c.u32_in.ensures rows words c.u16_in-2.result c.u32_in-words.result c.u32_in-2.result have
    c.u16_in-2.ensures c.u32_in-words.ensures c.u32_in-2.ensures
