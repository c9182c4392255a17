use Rattle.std.proofs.Common.{length, drop}
use Rattle.posting_codec.specs.PostingLists.{least_after}
use Rattle.image_write.proofs.Posted.{AreListed}
use Rattle.image_write.proofs.lists.put_list.Given as goal

abbrev pub invariant-loop-at : goal.invariant-loop-at
invariant-loop-at l = AreListed l.places l.at (least_after l.previous) l.count l.fn.out.items l.out.items

abbrev pub decreases-loop-at : goal.decreases-loop-at
decreases-loop-at l = length (drop l.at l.places)
