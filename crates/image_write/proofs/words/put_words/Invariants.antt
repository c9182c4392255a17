use Rattle.std.proofs.Common.{length, drop, map}
use Rattle.image_write.proofs.Tabled.{Stand}
use Rattle.image_write.proofs.words.put_words.Given as goal

abbrev pub invariant-loop-at : goal.invariant-loop-at
invariant-loop-at g l = Stand (map g.R.LendsDoc.lent l.rows) l.places l.at l.count l.fn.table.items l.table.items l.dictionary.items l.postings.items

abbrev pub decreases-loop-at : goal.decreases-loop-at
decreases-loop-at g l = length (drop l.at l.places)
