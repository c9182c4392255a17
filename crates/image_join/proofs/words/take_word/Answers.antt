use Rattle.std.proofs.Common.{◌≡◌, ◌<◌, ℕ, List, Option, Some, length, subst, sym, ◌∙◌, arith}
use Rattle.std.proofs.lemmas.List.{get_or_default, length-set}
use Rattle.doc_types.specs.Chunks.{AreWordsOf}
use Rattle.image_join.specs.steps.Merging.{IsBefore, IsLeast, StandAt, StandsAt, next_at}
use Rattle.image_join.specs.steps.Parts.{PartValue, blank_part, part_at}
use Rattle.image_join.proofs.Taken.{entries_more, later_more, nexts_more}
use Rattle.image_join.proofs.words.take_word.Goals as goal

pub loop-number-preserved : goal.loop-number-preserved
loop-number-preserved g c =
    let parts : List PartValue = c.args.parts.now in
    let i = c.loop-number.number in
    let part = c.index-parts-number.result in
    let word = c.args.word.now in
    let within : i < length c.loop-number.nexts = omega (arith, c.loop-number-test.true, c.loop-number.invariant.long, c.requires.stand.1.long) in
    let here : part ≡ part_at parts i = c.index-parts-number.is ∙ get_or_default parts i part blank_part c.loop-number-test.true in
    let stands : (last : Option (List ℕ)) → StandAt last parts c.args.nexts.now → StandsAt last part (next_at c.loop-number.nexts i) = λ last stand.
    subst (StandsAt last part) (sym (c.loop-number.invariant.later i (omega arith))) (subst (λ p. StandsAt last p (next_at c.args.nexts.now i)) (sym here) (stand.each i c.loop-number-test.true)) in
    let before : (last : Option (List ℕ)) → IsLeast last parts word → IsBefore last word part = λ last least. subst (IsBefore last word) (sym here) (least.each i blank_part c.loop-number-test.true) in
    record {
      long = length-set c.loop-number.nexts i c.in_ok-nexts.field-0 ∙ c.loop-number.invariant.long;
      later = later_more c.loop-number.nexts c.args.nexts.now i c.in_ok-nexts.field-0 c.loop-number.invariant.later;
      nexts = λ last stand least. nexts_more word parts c.loop-number.nexts i c.in_ok-nexts.field-0 within
          (subst (λ p. StandsAt (Some word) p c.in_ok-nexts.field-0) here (c.in_ok-nexts.ensures.next last (stands last stand) (before last least) least.ahead)) (c.loop-number.invariant.nexts last stand least);
      found = λ last stand least. entries_more word c.args.numbers.now parts i part _ _ _ c.loop-number-test.true c.index-parts-number.is (c.loop-number.invariant.found last stand least)
          (c.in_ok-nexts.ensures.found last (stands last stand) (before last least) least.ahead);
    }

pub returns-clause-nexts : goal.returns-clause-nexts
returns-clause-nexts g c = λ last stand least. record {
  long = c.loop-number.invariant.long ∙ stand.long;
  each = λ k low. c.loop-number.invariant.nexts last stand least k (omega (arith, low, c.loop-number-test.false));
}

pub take_from-requires-clause-next : goal.take_from-requires-clause-next
take_from-requires-clause-next g c =
    let parts : List PartValue = c.args.parts.now in
    let i = c.loop-number.number in
    let last = c.requires.stand.0 in
    let part = c.index-parts-number.result in
    let here : part ≡ part_at parts i = c.index-parts-number.is ∙ get_or_default parts i part blank_part c.loop-number-test.true in
    let stands : StandsAt last part (next_at c.loop-number.nexts i) =
    subst (StandsAt last part) (sym (c.loop-number.invariant.later i (omega arith))) (subst (λ p. StandsAt last p (next_at c.args.nexts.now i)) (sym here) (c.requires.stand.1.each i c.loop-number-test.true)) in
    stands.headed

pub take_from-requires-clause-words : goal.take_from-requires-clause-words
take_from-requires-clause-words g c =
    let parts : List PartValue = c.args.parts.now in
    let part = c.index-parts-number.result in
    let here : part ≡ part_at parts c.loop-number.number = c.index-parts-number.is ∙ get_or_default parts c.loop-number.number part blank_part c.loop-number-test.true in
    subst (λ p. AreWordsOf p.rows p.words) (sym here) (c.requires.words c.loop-number.number blank_part c.loop-number-test.true)
