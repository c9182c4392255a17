use Rattle.image_cover.proofs.Counting.{Counted}
use Rattle.image_cover.specs.Covers.{seen}
use Rattle.image_cover.proofs.lists.take_differences.Given as goal

abbrev pub invariant-hits : goal.invariant-hits
invariant-hits l = Counted l.bytes l.start l.at l.last l.counter l.row l.own (seen l.fn.cover) (seen l.cover)
