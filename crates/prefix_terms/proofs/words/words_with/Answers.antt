use Rattle.std.proofs.Common.{◌<◌, ◌^◌, List, All, length, subst, sym, ap, arith}
use Rattle.prefix_terms.specs.steps.Merging.{AreMerged}
use Rattle.prefix_terms.specs.steps.Parts.{Ascend, PartValue}
use Rattle.prefix_terms.proofs.LayerWords.{merged_words, parts_ascend, parts_many, parts_short}
use Rattle.prefix_terms.proofs.words.words_with.Goals as goal

pub merged-requires-clause-ascend : goal.merged-requires-clause-ascend
merged-requires-clause-ascend g c =
    subst (All (λ (part : PartValue). Ascend part.words)) (sym c.deref.ensures.value) (parts_ascend c.args.beginning.now c.args.layers.now c.in_ok-parts.parts.items c.in_ok-parts.ensures)

pub merged-requires-clause-short : goal.merged-requires-clause-short
merged-requires-clause-short g c =
    subst (All (λ (part : PartValue). length part.words < 2 ^ 32)) (sym c.deref.ensures.value) (parts_short c.args.beginning.now c.args.layers.now c.in_ok-parts.parts.items c.in_ok-parts.ensures)

pub merged-requires-clause-few : goal.merged-requires-clause-few
merged-requires-clause-few g c =
    let same = ap (λ (parts : List PartValue). length parts) c.deref.ensures.value in
    let many = parts_many c.args.beginning.now c.args.layers.now c.in_ok-parts.parts.items c.in_ok-parts.ensures in
    omega (arith, same, many, c.requires)

pub returns-clause-words : goal.returns-clause-words
returns-clause-words g c =
    let its = c.in_ok-found.ensures.words in
    let merged : AreMerged c.in_ok-parts.parts.items its.0 = subst (λ (parts : List PartValue). AreMerged parts its.0) c.deref.ensures.value its.1 in
    (its.0, merged_words c.args.beginning.now c.args.layers.now c.in_ok-parts.parts.items its.0 c.in_ok-parts.ensures merged, its.2)
