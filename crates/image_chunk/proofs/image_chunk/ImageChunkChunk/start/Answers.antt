use Rattle.std.proofs.Common.{◌∙◌, sym, refl, rules}
use Rattle.image_chunk.proofs.Starting.{is_found, none_there, seen}
use Rattle.image_chunk.proofs.image_chunk.ImageChunkChunk.start.Goals as goal

pub returns-in_err-number-clause-found : goal.returns-in_err-number-clause-found
returns-in_err-number-clause-found c =
    let chunk = c.args.self.now in
    let have = seen chunk.bytes chunk.image c.as_slice-image.result.now c.as_slice-image.ensures in
    let none = none_there chunk.bytes chunk.image c.args.word.now (sym (c.number.ensures chunk.image.0.0 chunk.image.0.1 have chunk.parted) ∙ c.in_err-number.was) in
    rw (c.from_residual.ensures, none) (search rules)

pub returns-in_err-number-clause-none : goal.returns-in_err-number-clause-none
returns-in_err-number-clause-none c =
    let chunk = c.args.self.now in
    let have = seen chunk.bytes chunk.image c.as_slice-image.result.now c.as_slice-image.ensures in
    rw c.from_residual.ensures (none_there chunk.bytes chunk.image c.args.word.now (sym (c.number.ensures chunk.image.0.0 chunk.image.0.1 have chunk.parted) ∙ c.in_err-number.was))

pub front-requires : goal.front-requires
front-requires c =
    let chunk = c.args.self.now in
    let have = seen chunk.bytes chunk.image c.as_slice-image.result.now c.as_slice-image.ensures in
    (is_found chunk.bytes chunk.image c.args.word.now c.in_ok-number.number (sym (c.number.ensures chunk.image.0.0 chunk.image.0.1 have chunk.parted) ∙ c.in_ok-number.was)).within

pub returns-clause-found : goal.returns-clause-found
returns-clause-found c =
    let chunk = c.args.self.now in
    let have = seen chunk.bytes chunk.image c.as_slice-image.result.now c.as_slice-image.ensures in
    (λ _. (is_found chunk.bytes chunk.image c.args.word.now c.in_ok-number.number (sym (c.number.ensures chunk.image.0.0 chunk.image.0.1 have chunk.parted) ∙ c.in_ok-number.was)).some, λ _. refl)

pub returns-clause-first : goal.returns-clause-first
returns-clause-first c =
    let chunk = c.args.self.now in
    let have = seen chunk.bytes chunk.image c.as_slice-image.result.now c.as_slice-image.ensures in
    let found = is_found chunk.bytes chunk.image c.args.word.now c.in_ok-number.number (sym (c.number.ensures chunk.image.0.0 chunk.image.0.1 have chunk.parted) ∙ c.in_ok-number.was) in
    (c.front.ensures.stands, c.front.ensures.first c.args.word.now found.there)
