use Rattle.std.proofs.Common.{◌+◌, arith, ap, ◌∙◌}
use Rattle.image_parts.proofs.WordPlaces.{count_is, word_fits}
use Rattle.image_parts.proofs.parts.Parts.count.Goals as goal

pub u32_in-requires : goal.u32_in-requires
u32_in-requires c =
    let r = c.requires in
    let f = word_fits r.0 r.1 c.args.image.now c.args.self c.args.n r.2 r.3 r.4 in
    omega (arith, f.entry, c.entry.ensures)

pub returns : goal.returns
returns c = λ rows words word have are e.
    c.u32_in.ensures ∙ count_is rows words c.args.image.now c.args.self have are c.args.n word e _ (ap (λ k. k + 4) c.entry.ensures)
