use Rattle.std.proofs.Common.{sym}
use Rattle.image_chunk.proofs.Building.{first_tells, none_tells}
use Rattle.image_chunk.proofs.ram_chunk.counts_of.Goals as goal

pub returns-in-Some : goal.returns-in-Some
returns-in-Some c =
    (c.requires.schema, first_tells c.args.rows.now c.in-Some.row.now c.len.result c.len-in-Some.result c.requires (sym c.in-Some.ensures.value) c.len.ensures c.len-in-Some.ensures)

pub returns-in-None : goal.returns-in-None
returns-in-None c = none_tells c.args.rows.now (sym c.in-None.ensures.value)
