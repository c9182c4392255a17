use Rattle.image_parts.proofs.RowPlaces.{low_too}
use Rattle.image_parts.proofs.MarkPlaces.{lent_marks, marks_within}
use Rattle.image_parts.proofs.marks.marks_of.Goals as goal

pub part_of-requires-clause-order : goal.part_of-requires-clause-order
part_of-requires-clause-order c =
    let r = c.requires in
    (marks_within r.0 r.1 c.args.image.now c.args.parts c.args.row _ _ r.2 r.3 r.4 (c.marks_place-begin.ensures.place r.0 r.1 r.2 r.3) (λ found e. c.marks_end-end.ensures r.0 r.1 found r.2 r.3 e)).0

pub part_of-requires-clause-within : goal.part_of-requires-clause-within
part_of-requires-clause-within c =
    let r = c.requires in
    (marks_within r.0 r.1 c.args.image.now c.args.parts c.args.row _ _ r.2 r.3 r.4 (c.marks_place-begin.ensures.place r.0 r.1 r.2 r.3) (λ found e. c.marks_end-end.ensures r.0 r.1 found r.2 r.3 e)).1

pub returns : goal.returns
returns c = λ rows words have are.
    let r = c.requires in
    lent_marks rows words c.args.image.now c.args.parts c.args.row _ _ _ have are (low_too r.0 rows r.1 words c.args.parts c.args.row r.3 are r.4) (c.marks_place-begin.ensures.place rows words have are) (λ found e. c.marks_end-end.ensures rows words found have are e) c.part_of.ensures
