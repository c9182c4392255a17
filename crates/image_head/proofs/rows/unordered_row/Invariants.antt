use Rattle.image_head.proofs.Ascending.{Ascended}
use Rattle.image_head.proofs.rows.unordered_row.Given as goal

abbrev pub invariant-rows : goal.invariant-rows
invariant-rows l = Ascended l.schema l.image l.at l.before l.row
