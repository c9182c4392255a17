use Rattle.image_cover.proofs.Listing.{Listed}
use Rattle.image_cover.specs.Covers.{seen}
use Rattle.image_cover.proofs.lists.take_list.Given as goal

abbrev pub invariant-entries : goal.invariant-entries
invariant-entries l = Listed l.bytes l.rows l.start l.at l.least l.counter l.starts l.width (seen l.fn.cover) (seen l.cover)
