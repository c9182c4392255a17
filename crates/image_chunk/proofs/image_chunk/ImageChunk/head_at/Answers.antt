use Rattle.std.proofs.Common.{◌≡◌, ◌∙◌, ℕ, List, [], Some, ap, drop, slice_get, subst, sym, take}
use Rattle.std.proofs.lemmas.Option.{get_or_from_slice_get}
use Rattle.image_write.specs.Heads.{IsRead, head}
use Rattle.image_chunk.proofs.Starting.{seen}
use Rattle.image_chunk.proofs.image_chunk.ImageChunk.head_at.Goals as goal

one_word : (words : List (List ℕ)) (n : ℕ) (a b : List ℕ) → slice_get words n ≡ Some a → slice_get words n ≡ Some b → a ≡ b
one_word words n a b there again = sym (get_or_from_slice_get words n a [] there) ∙ get_or_from_slice_get words n b [] again

pub returns : goal.returns
returns c =
    let chunk = c.args.self.now in
    let words = chunk.image.0.1 in
    let its = take c.word_span-at.result.1 (drop c.word_span-at.result.0 c.as_slice-image.result.now) in
    let there = c.word_span-at.ensures.word chunk.image.0.0 words (seen chunk.bytes chunk.image c.as_slice-image.result.now c.as_slice-image.ensures) chunk.parted in
    record {
      is = λ word again. c.head_in.ensures.is ∙ ap head (one_word words c.args.number its word there again);
      bytes = λ word again. subst IsRead (one_word words c.args.number its word there again) c.head_in.ensures.bytes;
    }
