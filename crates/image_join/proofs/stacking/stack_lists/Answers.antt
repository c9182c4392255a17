use Rattle.std.proofs.Common.{◌≡◌, ◌+◌, ◌≤◌, ◌<◌, ℕ, List, Option, Some, length, subst, sym, ◌∙◌, arith}
use Rattle.std.proofs.lemmas.List.{get_or_default, length-set}
use Rattle.doc_types.specs.Chunks.{AreWordsOf}
use Rattle.image_join.specs.steps.Merging.{IsBefore, IsLeast, StandAt, StandsAt, next_at}
use Rattle.image_join.specs.steps.Parts.{PartValue, blank_part, part_at}
use Rattle.image_join.specs.steps.Stacking.{at_front}
use Rattle.image_join.proofs.Laid.{laid_next}
use Rattle.image_join.proofs.Stacked.{stacked_more}
use Rattle.image_join.proofs.Taken.{later_more, nexts_more}
use Rattle.image_join.proofs.stacking.stack_lists.Goals as goal

pub stack_from-requires-clause-words : goal.stack_from-requires-clause-words
stack_from-requires-clause-words g c =
    let parts : List PartValue = c.args.parts.now in
    let part = c.index-parts-number.result in
    let here : part ≡ part_at parts c.loop-number.number = c.index-parts-number.is ∙ get_or_default parts c.loop-number.number part blank_part c.loop-number-test.true in
    subst (λ p. AreWordsOf p.rows p.words) (sym here) (c.requires.words c.loop-number.number blank_part c.loop-number-test.true)

pub loop-number-preserved : goal.loop-number-preserved
loop-number-preserved g c =
    let parts : List PartValue = c.args.parts.now in
    let i = c.loop-number.number in
    let part = c.index-parts-number.result in
    let word = c.args.word.now in
    let within : i < length c.loop-number.nexts = omega (arith, c.loop-number-test.true, c.loop-number.invariant.long, c.requires.stand.1.long) in
    let here : part ≡ part_at parts i = c.index-parts-number.is ∙ get_or_default parts i part blank_part c.loop-number-test.true in
    let stands : (last : Option (List ℕ)) → StandAt last parts c.args.nexts.now → StandsAt last part (next_at c.loop-number.nexts i) = λ last stand.
    subst (StandsAt last part) (sym (c.loop-number.invariant.later i (omega arith))) (subst (λ p. StandsAt last p (next_at c.args.nexts.now i)) (sym here) (stand.each i c.loop-number-test.true)) in
    let before : (last : Option (List ℕ)) → IsLeast last parts word → IsBefore last word part = λ last least. subst (IsBefore last word) (sym here) (least.each i blank_part c.loop-number-test.true) in
    record {
      long = length-set c.loop-number.nexts i c.in_ok-next.next ∙ c.loop-number.invariant.long;
      room = λ low.
          let next = laid_next 0 parts i c.requires.laid low in
          let ends : c.in_ok-next.after.least ≤ (part_at parts i).first + length (part_at parts i).rows = subst (λ (p : PartValue). c.in_ok-next.after.least ≤ p.first + length p.rows) here c.in_ok-next.ensures.within in
          omega (arith, next, ends);
      later = later_more c.loop-number.nexts c.args.nexts.now i c.in_ok-next.next c.loop-number.invariant.later;
      nexts = λ last stand least. nexts_more word parts c.loop-number.nexts i c.in_ok-next.next within
          (subst (λ p. StandsAt (Some word) p c.in_ok-next.next) here (c.in_ok-next.ensures.next last (stands last stand) (before last least) least.ahead)) (c.loop-number.invariant.nexts last stand least);
      posted = λ last stand least. stacked_more word parts i part c.args.out.now.items c.loop-number.out.items c.stack_from.new.out.items at_front c.loop-number.reached c.in_ok-next.after c.loop-number-test.true c.index-parts-number.is
          (c.loop-number.invariant.posted last stand least) (c.in_ok-next.ensures.posted last (stands last stand) (before last least) least.ahead);
    }

pub returns-clause-nexts : goal.returns-clause-nexts
returns-clause-nexts g c = λ last stand least. record {
  long = c.loop-number.invariant.long ∙ stand.long;
  each = λ k low. c.loop-number.invariant.nexts last stand least k (omega (arith, low, c.loop-number-test.false));
}

pub stack_from-requires-clause-next : goal.stack_from-requires-clause-next
stack_from-requires-clause-next g c =
    let parts : List PartValue = c.args.parts.now in
    let i = c.loop-number.number in
    let last = c.requires.stand.0 in
    let part = c.index-parts-number.result in
    let here : part ≡ part_at parts i = c.index-parts-number.is ∙ get_or_default parts i part blank_part c.loop-number-test.true in
    let stands : StandsAt last part (next_at c.loop-number.nexts i) =
    subst (StandsAt last part) (sym (c.loop-number.invariant.later i (omega arith))) (subst (λ p. StandsAt last p (next_at c.args.nexts.now i)) (sym here) (c.requires.stand.1.each i c.loop-number-test.true)) in
    stands.headed

pub stack_from-requires-clause-least : goal.stack_from-requires-clause-least
stack_from-requires-clause-least g c =
    let parts : List PartValue = c.args.parts.now in
    let i = c.loop-number.number in
    let part = c.index-parts-number.result in
    let here : part ≡ part_at parts i = c.index-parts-number.is ∙ get_or_default parts i part blank_part c.loop-number-test.true in
    subst (λ (p : PartValue). c.loop-number.reached.least ≤ p.first) (sym here) (c.loop-number.invariant.room c.loop-number-test.true)
