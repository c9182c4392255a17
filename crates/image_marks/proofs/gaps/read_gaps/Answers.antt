use Rattle.std.proofs.Common.{ap, ◌∙◌}
use Rattle.bit_lists.specs.BitLists.{bits_of}
use Rattle.image_marks.specs.Markings.{with_bit}
use Rattle.image_marks.proofs.GapSteps.{marked_more, marked_stop}
use Rattle.image_marks.proofs.gaps.read_gaps.Goals as goal

pub returns-in-None : goal.returns-in-None
returns-in-None c =
    marked_stop c.args.bytes.now c.args.at c.gaps.place c.gaps.position c.gaps.counter c.args.count c.args.row c.args.start c.args.last (bits_of c.args.cover.now.taken) (bits_of c.gaps.cover.taken) c.args.cover.now.least c.gaps.cover.least c.gaps.invariant c.gaps-test.true c.in-None.ensures

pub gaps-preserved : goal.gaps-preserved
gaps-preserved c =
    marked_more c.args.bytes.now c.args.at c.gaps.place c.in-Some.end c.gaps.position c.in-Some.next c.gaps.counter c.args.row c.args.start c.args.last (bits_of c.args.cover.now.taken) (bits_of c.gaps.cover.taken) (bits_of c.take_gap.new.cover.taken) c.args.cover.now.least c.gaps.cover.least c.take_gap.new.cover.least c.gaps.invariant c.in-Some.ensures
    (c.take_gap.ensures.taken ∙ ap (λ b. with_bit c.args.start c.args.last b c.in-Some.next) c.note_gap.ensures.taken) (c.take_gap.ensures.least ∙ c.note_gap.ensures.least)
