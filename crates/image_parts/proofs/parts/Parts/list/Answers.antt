use Rattle.std.proofs.Common.{◌+◌, arith, ap, ◌∙◌}
use Rattle.image_parts.proofs.RowPlaces.{element}
use Rattle.image_parts.proofs.WordPlaces.{list_at, list_fits, list_is, low_word, word_fits}
use Rattle.image_parts.proofs.parts.Parts.list.Goals as goal

pub u32_in-requires : goal.u32_in-requires
u32_in-requires c =
    let r = c.requires in
    let f = word_fits r.0 r.1 c.args.image.now c.args.self c.args.n r.2 r.3 r.4 in
    omega (arith, f.entry, c.entry.ensures)

pub overflow_add-result : goal.overflow_add-result
overflow_add-result c =
    let r = c.requires in
    let f = word_fits r.0 r.1 c.args.image.now c.args.self c.args.n r.2 r.3 r.4 in
    omega (arith, f.postings, f.short)

pub returns-clause-place : goal.returns-clause-place
returns-clause-place c = λ rows words have are.
    let r = c.requires in
    let found = element words c.args.n (low_word r.0 rows r.1 words c.args.self c.args.n r.3 are r.4) in
    let read = c.u32_in.ensures ∙ list_at rows words c.args.image.now c.args.self have are c.args.n found.0 found.1 _ (ap (λ k. k + 8) c.entry.ensures) in
    omega (arith, read, list_fits rows words c.args.image.now c.args.self have are c.args.n found.0 found.1)

pub returns-clause-begins : goal.returns-clause-begins
returns-clause-begins c = λ rows words word have are e.
    let read = c.u32_in.ensures ∙ list_at rows words c.args.image.now c.args.self have are c.args.n word e _ (ap (λ k. k + 8) c.entry.ensures) in
    list_is rows words c.args.image.now c.args.self have are c.args.n word e _ (ap (λ k. c.args.self.postings + k) read)
