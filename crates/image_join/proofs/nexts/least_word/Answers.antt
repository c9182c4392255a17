use Rattle.std.proofs.Common.{◌≡◌, ◌<◌, true, List, Some, length, slice_get, sym, ap, ◌∙◌, rules}
use Rattle.std.proofs.lemmas.List.{get_or_default}
use Rattle.image_write.specs.Heads.{tells}
use Rattle.image_join.specs.steps.Merging.{next_at}
use Rattle.image_join.specs.steps.Parts.{PartValue, blank_part, part_at}
use Rattle.image_join.proofs.Least.{front_at, least_told}
use Rattle.image_join.proofs.nexts.least_word.Goals as goal

pub returns : goal.returns
returns g c = λ last stand.
    let parts : List PartValue = c.args.parts.now in
    let nexts = c.args.nexts.now in
    let place = c.least_of-place.result.0 in
    let tell : tells c.least_of-place.result.1 ≡ true = sym c.tells.ensures ∙ c.if-not-tells.false in
    let within : place < length parts = search rules in
    let here : c.index-parts-place.result ≡ part_at parts place = c.index-parts-place.is ∙ get_or_default parts place c.index-parts-place.result blank_part within in
    let at : front_at parts nexts place ≡ Some c.word_at-word.result.now = ap (λ (part : PartValue). slice_get part.words (next_at nexts place).number) (sym here) ∙ c.word_at-word.ensures in
    least_told last parts nexts c.requires.words stand place c.least_of-place.result.1 c.least_of-place.ensures c.word_at-word.result.now tell at
