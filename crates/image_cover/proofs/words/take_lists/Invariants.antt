use Rattle.image_cover.proofs.AllLists.{Read}
use Rattle.image_cover.specs.Covers.{seen}
use Rattle.image_cover.proofs.words.take_lists.Given as goal

abbrev pub invariant-words : goal.invariant-words
invariant-words l = Read l.table l.rows l.postings l.at l.last l.word l.starts l.width (seen l.fn.cover) (seen l.cover)
