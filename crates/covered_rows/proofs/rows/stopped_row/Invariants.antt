use Rattle.image_cover.specs.Covers.{seen}
use Rattle.covered_rows.proofs.Passing.{Passed}
use Rattle.covered_rows.proofs.rows.stopped_row.Given as goal

abbrev pub invariant-rows : goal.invariant-rows
invariant-rows l = Passed l.starts l.width (seen l.cover) l.clear l.next l.row
