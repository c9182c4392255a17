use Rattle.std.proofs.Common.{arith}
use Rattle.image_parts.proofs.MarkPlaces.{next_begin, table_begin}
use Rattle.image_parts.proofs.parts.Parts.marks_end.Goals as goal

pub marks_place-requires : goal.marks_place-requires
marks_place-requires c = let r = c.requires in (r.0, r.1, r.2, r.3, omega (arith, r.3.rows_n, c.if-row-self.true))

pub returns-then-row-self : goal.returns-then-row-self
returns-then-row-self c = λ rows words found have are e. next_begin rows c.args.row found e _ c.args.self.marks (c.marks_place.ensures.place rows words have are)

pub returns-else-row-self : goal.returns-else-row-self
returns-else-row-self c = λ rows words found have are e. table_begin rows words c.args.self c.args.row found are e c.if-row-self.false
