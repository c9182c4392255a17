use Rattle.std.proofs.Common.{arith}
use Rattle.image_parts.proofs.RowPlaces.{born_answer, low_too, row_fits}
use Rattle.image_parts.proofs.parts.Parts.born.Goals as goal

pub place-requires : goal.place-requires
place-requires c =
    let r = c.requires in
    let f = row_fits r.0 r.1 c.args.image.now c.args.self c.args.row r.2 r.3 r.4 in
    omega (arith, f.some, f.fits, f.short)

pub u64_in-requires : goal.u64_in-requires
u64_in-requires c =
    let r = c.requires in
    let f = row_fits r.0 r.1 c.args.image.now c.args.self c.args.row r.2 r.3 r.4 in
    omega (arith, f.some, f.fits, c.place.ensures)

pub returns : goal.returns
returns c = λ rows words have are.
    let r = c.requires in
    born_answer rows words c.args.image.now c.args.self c.args.row c.place.result c.u64_in.result have are (low_too r.0 rows r.1 words c.args.self c.args.row r.3 are r.4) c.place.ensures c.u64_in.ensures

pub overflow_add-place : goal.overflow_add-place
overflow_add-place c =
    let r = c.requires in
    let f = row_fits r.0 r.1 c.args.image.now c.args.self c.args.row r.2 r.3 r.4 in
    omega (arith, f.some, f.fits, f.short, c.place.ensures)
