use Rattle.std.proofs.Common.{◌+◌, arith, ap, ◌∙◌}
use Rattle.image_parts.proofs.RowPlaces.{element, low_too, row_fits}
use Rattle.image_parts.proofs.MarkPlaces.{begin_is, marks_fit, numbers_here}
use Rattle.image_parts.proofs.parts.Parts.marks_place.Goals as goal

pub place-requires : goal.place-requires
place-requires c =
    let r = c.requires in
    let f = row_fits r.0 r.1 c.args.image.now c.args.self c.args.row r.2 r.3 r.4 in
    omega (arith, f.some, f.fits, f.short)

pub overflow_add-place : goal.overflow_add-place
overflow_add-place c =
    let r = c.requires in
    let f = row_fits r.0 r.1 c.args.image.now c.args.self c.args.row r.2 r.3 r.4 in
    omega (arith, f.fits, f.short, c.place.ensures)

pub u32_in-requires : goal.u32_in-requires
u32_in-requires c =
    let r = c.requires in
    let f = row_fits r.0 r.1 c.args.image.now c.args.self c.args.row r.2 r.3 r.4 in
    omega (arith, f.some, f.fits, c.place.ensures)

pub overflow_add-result : goal.overflow_add-result
overflow_add-result c =
    let r = c.requires in
    let f = marks_fit r.0 r.1 c.args.image.now c.args.self r.2 r.3 in
    omega (arith, f.within, f.short)

pub returns-clause-place : goal.returns-clause-place
returns-clause-place c = λ rows words have are.
    let r = c.requires in
    let found = element rows c.args.row (low_too r.0 rows r.1 words c.args.self c.args.row r.3 are r.4) in
    let f = row_fits r.0 r.1 c.args.image.now c.args.self c.args.row r.2 r.3 r.4 in
    ap (λ n. c.args.self.marks + n) (c.u32_in.ensures ∙ begin_is rows words c.args.image.now c.args.self have are c.args.row found.0 found.1 _ (omega (arith, f.some, c.place.ensures)))

pub returns-clause-numbers : goal.returns-clause-numbers
returns-clause-numbers c = λ rows words row have are e.
    let r = c.requires in
    let f = row_fits r.0 r.1 c.args.image.now c.args.self c.args.row r.2 r.3 r.4 in
    numbers_here rows words c.args.image.now c.args.self have are c.args.row row e _
    (ap (λ n. c.args.self.marks + n) (c.u32_in.ensures ∙ begin_is rows words c.args.image.now c.args.self have are c.args.row row e _ (omega (arith, f.some, c.place.ensures))))
