use Rattle.std.proofs.Common.{◌≡◌, ◌-◌, ◌∙◌, [], get_or, sym, ap, drop, length, arith}
use Rattle.std.proofs.lemmas.List.{length-drop, take_all}
use Rattle.std.proofs.lemmas.Option.{get_or_from_slice_get}
use Rattle.chunk_image.specs.ChunkImage.{word_postings}
use Rattle.image_chunk.proofs.Starting.{is_there, list_whole, list_within, seen}
use Rattle.image_chunk.proofs.image_chunk.ImageChunk.list_bytes.Goals as goal

pub slice_bounds-result-count : goal.slice_bounds-result-count
slice_bounds-result-count c =
    let chunk = c.args.self.now in
    let have = seen chunk.bytes chunk.image c.as_slice.result.now c.as_slice.ensures in
    let found = is_there chunk.bytes chunk.image c.args.number c.requires in
    let begins = ap (drop c.list-begin.result) (sym c.as_slice.ensures) ∙ c.list-begin.ensures.begins chunk.image.0.0 chunk.image.0.1 (get_or chunk.image.0.1 c.args.number []) have chunk.parted found.there in
    list_within chunk.bytes chunk.image (get_or chunk.image.0.1 c.args.number []) c.args.number found c.list-whole.result.now c.list-whole.ensures c.list-begin.result begins

pub slice_bounds-result-start : goal.slice_bounds-result-start
slice_bounds-result-start c =
    let chunk = c.args.self.now in
    let have = seen chunk.bytes chunk.image c.as_slice.result.now c.as_slice.ensures in
    let found = is_there chunk.bytes chunk.image c.args.number c.requires in
    let begins = ap (drop c.list-begin.result) (sym c.as_slice.ensures) ∙ c.list-begin.ensures.begins chunk.image.0.0 chunk.image.0.1 (get_or chunk.image.0.1 c.args.number []) have chunk.parted found.there in
    list_within chunk.bytes chunk.image (get_or chunk.image.0.1 c.args.number []) c.args.number found c.list-whole.result.now c.list-whole.ensures c.list-begin.result begins

pub returns : goal.returns
returns c = λ word there.
    let chunk = c.args.self.now in
    let whole = c.list-whole.result.now in
    let begin = c.list-begin.result in
    let have = seen chunk.bytes chunk.image c.as_slice.result.now c.as_slice.ensures in
    let found = is_there chunk.bytes chunk.image c.args.number c.requires in
    let begins = ap (drop begin) (sym c.as_slice.ensures) ∙ c.list-begin.ensures.begins chunk.image.0.0 chunk.image.0.1 (get_or chunk.image.0.1 c.args.number []) have chunk.parted found.there in
    let same : get_or chunk.image.0.1 c.args.number [] ≡ word = get_or_from_slice_get chunk.image.0.1 c.args.number word [] there in
    take_all (length whole - begin) (drop begin whole) (omega (arith, length-drop begin whole))
    ∙ list_whole chunk.bytes chunk.image (get_or chunk.image.0.1 c.args.number []) c.args.number found whole c.list-whole.ensures begin begins
    ∙ ap (word_postings chunk.image.0.0) same
