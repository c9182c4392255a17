use Rattle.std.proofs.Common.{arith}
use Rattle.image_parts.proofs.RowPlaces.{row_fits, value_answer, value_low}
use Rattle.image_parts.proofs.parts.Parts.value.Goals as goal

pub place-requires : goal.place-requires
place-requires c =
    let r = c.requires in
    let low = value_low r.0 r.1 c.args.image.now c.args.self c.args.row c.args.attr r.2 r.3 r.4 in
    let f = row_fits r.0 r.1 c.args.image.now c.args.self c.args.row r.2 r.3 low.0 in
    omega (arith, f.some, f.fits, f.short)

pub overflow_add-place : goal.overflow_add-place
overflow_add-place c =
    let r = c.requires in
    let low = value_low r.0 r.1 c.args.image.now c.args.self c.args.row c.args.attr r.2 r.3 r.4 in
    let f = row_fits r.0 r.1 c.args.image.now c.args.self c.args.row r.2 r.3 low.0 in
    omega (arith, f.some, f.fits, f.short, c.place.ensures)

pub overflow_add-place-2 : goal.overflow_add-place-2
overflow_add-place-2 c =
    let r = c.requires in
    let low = value_low r.0 r.1 c.args.image.now c.args.self c.args.row c.args.attr r.2 r.3 r.4 in
    let f = row_fits r.0 r.1 c.args.image.now c.args.self c.args.row r.2 r.3 low.0 in
    omega (arith, low.1, f.fits, f.short, c.place.ensures)

pub u64_in-number-requires : goal.u64_in-number-requires
u64_in-number-requires c =
    let r = c.requires in
    let low = value_low r.0 r.1 c.args.image.now c.args.self c.args.row c.args.attr r.2 r.3 r.4 in
    let f = row_fits r.0 r.1 c.args.image.now c.args.self c.args.row r.2 r.3 low.0 in
    omega (arith, low.1, f.fits, c.place.ensures)

pub returns : goal.returns
returns c = λ rows words have are.
    let r = c.requires in
    value_answer r.0 rows r.1 words c.args.image.now c.args.self c.args.row c.args.attr c.place.result c.u64_in-number.result c.cast_signed.result r.2 r.3 r.4 have are c.place.ensures c.u64_in-number.ensures c.cast_signed.ensures
