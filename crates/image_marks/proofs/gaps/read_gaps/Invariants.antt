use Rattle.bit_lists.specs.BitLists.{bits_of}
use Rattle.image_marks.proofs.GapSteps.{Marked}
use Rattle.image_marks.proofs.gaps.read_gaps.Given as goal

abbrev pub invariant-gaps : goal.invariant-gaps
invariant-gaps l = Marked l.bytes l.at l.place l.position l.counter l.row l.start l.last (bits_of l.fn.cover.taken) (bits_of l.cover.taken) l.fn.cover.least l.cover.least
