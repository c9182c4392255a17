use Rattle.std.proofs.Common.{◌≡◌, ◌∙◌, [], get_or, sym, ap, drop}
use Rattle.std.proofs.lemmas.Option.{get_or_from_slice_get}
use Rattle.doc_types.specs.Chunks.{first_place}
use Rattle.image_chunk.proofs.Cursors.{list_small}
use Rattle.image_chunk.proofs.Starting.{is_list, is_there, place_first, seen, stands_first}
use Rattle.image_chunk.proofs.image_chunk.ImageChunk.front.Goals as goal

pub first-at-requires-clause-small : goal.first-at-requires-clause-small
first-at-requires-clause-small c = list_small c.args.self.now.bytes c.args.self.now.image c.args.number c.list.result.now c.list.ensures

pub first-at-requires-clause-here : goal.first-at-requires-clause-here
first-at-requires-clause-here c =
    let chunk = c.args.self.now in
    let have = seen chunk.bytes chunk.image c.as_slice.result.now c.as_slice.ensures in
    let found = is_there chunk.bytes chunk.image c.args.number c.requires in
    is_list chunk.bytes chunk.image (get_or chunk.image.0.1 c.args.number []) c.args.number found c.list.result.now c.list.ensures c.list-2.result
    (ap (drop c.list-2.result) (sym c.as_slice.ensures) ∙ c.list-2.ensures.begins chunk.image.0.0 chunk.image.0.1 (get_or chunk.image.0.1 c.args.number []) have chunk.parted found.there)

pub returns-clause-stands : goal.returns-clause-stands
returns-clause-stands c =
    let chunk = c.args.self.now in
    let have = seen chunk.bytes chunk.image c.as_slice.result.now c.as_slice.ensures in
    let found = is_there chunk.bytes chunk.image c.args.number c.requires in
    let begins = ap (drop c.list-2.result) (sym c.as_slice.ensures) ∙ c.list-2.ensures.begins chunk.image.0.0 chunk.image.0.1 (get_or chunk.image.0.1 c.args.number []) have chunk.parted found.there in
    stands_first chunk.bytes chunk.image (get_or chunk.image.0.1 c.args.number []) c.args.number found c.list.result.now c.list.ensures c.list-2.result begins c.first-at.result.0 c.first-at.result.1 c.first-at.ensures

pub returns-clause-first : goal.returns-clause-first
returns-clause-first c = λ word there.
    let chunk = c.args.self.now in
    let have = seen chunk.bytes chunk.image c.as_slice.result.now c.as_slice.ensures in
    let found = is_there chunk.bytes chunk.image c.args.number c.requires in
    let begins = ap (drop c.list-2.result) (sym c.as_slice.ensures) ∙ c.list-2.ensures.begins chunk.image.0.0 chunk.image.0.1 (get_or chunk.image.0.1 c.args.number []) have chunk.parted found.there in
    let same : get_or chunk.image.0.1 c.args.number [] ≡ word = get_or_from_slice_get chunk.image.0.1 c.args.number word [] there in
    place_first chunk.bytes chunk.image (get_or chunk.image.0.1 c.args.number []) c.args.number found c.list.result.now c.list.ensures c.list-2.result begins c.first-at.result.0 c.first-at.result.1 c.first-at.ensures
    ∙ ap (λ w. first_place w chunk.image.0.0) same
