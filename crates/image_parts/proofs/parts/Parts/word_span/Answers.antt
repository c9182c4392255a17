use Rattle.std.proofs.Common.{◌+◌, ap, ◌∙◌, arith, drop, get_or, take}
use Rattle.image_parts.proofs.WordPlaces.{low_word, word_answer, word_fits, word_there_fits}
use Rattle.image_parts.proofs.parts.Parts.word_span.Goals as goal

pub u32_in-requires : goal.u32_in-requires
u32_in-requires c =
    let r = c.requires in
    let f = word_fits r.0 r.1 c.args.image.now c.args.self c.args.n r.2 r.3 r.4 in
    omega (arith, f.entry, c.entry.ensures)

pub overflow_add-at : goal.overflow_add-at
overflow_add-at c =
    let r = c.requires in
    let f = word_fits r.0 r.1 c.args.image.now c.args.self c.args.n r.2 r.3 r.4 in
    omega (arith, f.dictionary, f.short)

pub counted_at-requires : goal.counted_at-requires
counted_at-requires c =
    let r = c.requires in
    word_there_fits r.0 r.1 c.args.image.now c.args.self c.args.n c.entry.result c.u32_in.result r.2 r.3 r.4 c.entry.ensures c.u32_in.ensures

pub returns : goal.returns
returns c =
    let r = c.requires in
    let image = c.args.image.now in
    let at = c.args.self.dictionary + c.u32_in.result in
    record {
      within = omega (arith, word_there_fits r.0 r.1 image c.args.self c.args.n c.entry.result c.u32_in.result r.2 r.3 r.4 c.entry.ensures c.u32_in.ensures, c.counted_at.ensures.place, c.counted_at.ensures.size);
      word = λ rows words have are.
          word_answer rows words image c.args.self c.args.n c.entry.result c.u32_in.result (take c.counted_at.result.1 (drop c.counted_at.result.0 image)) have are (low_word r.0 rows r.1 words c.args.self c.args.n r.3 are r.4) c.entry.ensures c.u32_in.ensures
          (ap (λ k. take k (drop c.counted_at.result.0 image)) c.counted_at.ensures.size ∙ ap (λ k. take (get_or image at 0) (drop k image)) c.counted_at.ensures.place);
    }
