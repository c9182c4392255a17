use Rattle.std.proofs.Common.{◌∙◌, ap, slice_get}
use Rattle.doc_search.proofs.by_words.offer_by_words.Goals as goal

pub offer_at_most-requires-clause-weighs : goal.offer_at_most-requires-clause-weighs
offer_at_most-requires-clause-weighs g c = λ doc here.
    let stands = c.requires.stands in
    c.in-Some.ensures.weighs doc (ap (λ rows. slice_get rows c.args.stream.now.at) stands.rows ∙ ap (slice_get (g.C.Chunk.content c.args.chunk.now)) stands.at ∙ here)
