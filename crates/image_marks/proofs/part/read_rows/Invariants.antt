use Rattle.bit_lists.specs.BitLists.{bits_of}
use Rattle.image_marks.proofs.AllRows.{RowsRead}
use Rattle.image_marks.proofs.part.read_rows.Given as goal

abbrev pub invariant-rows : goal.invariant-rows
invariant-rows l = RowsRead l.schema l.image l.enough l.part l.at l.last l.row l.fn.starts.items (bits_of l.fn.cover.taken) l.starts.items (bits_of l.cover.taken) l.fn.cover.least l.cover.least
