use Rattle.std.proofs.Common.{map, take}
use Rattle.image_write.specs.steps.Places.{word_at}
use Rattle.image_write.proofs.ByWord.{AreOf}
use Rattle.image_write.proofs.words.count_word.Given as goal

abbrev pub invariant-loop-number : goal.invariant-loop-number
invariant-loop-number g l = AreOf (map g.R.LendsDoc.lent l.rows) (word_at (map g.R.LendsDoc.lent l.rows) l.first) (take l.number l.places)
