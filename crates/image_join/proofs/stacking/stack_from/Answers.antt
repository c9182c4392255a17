use Rattle.std.proofs.Common.{◌≡◌, [], List, sym, subst}
use Rattle.std.proofs.lemmas.Option.{slice_get_within}
use Rattle.image_join.specs.steps.Entries.{Entry}
use Rattle.image_join.specs.steps.Stacking.{ArePosted, stacked_in}
use Rattle.image_join.proofs.Passed.{goes_on, no_rows, stays}
use Rattle.image_join.proofs.Stacked.{none_stacked, posted_none}
use Rattle.image_join.proofs.stacking.stack_from.Goals as goal

pub returns-then-not-is_next-clause-next : goal.returns-then-not-is_next-clause-next
returns-then-not-is_next-clause-next g c = λ last stands before ahead.
    stays last c.args.part.now c.args.next c.args.word.now c.requires.words stands before ahead c.if-not-is_next.ensures

pub returns-then-not-is_next-clause-posted : goal.returns-then-not-is_next-clause-posted
returns-then-not-is_next-clause-posted g c = λ last stands before ahead.
    let part = c.args.part.now in
    let none : stacked_in c.args.word.now part ≡ [] =
    none_stacked c.args.word.now part (no_rows last part c.args.next c.args.word.now c.requires.words stands before ahead c.if-not-is_next.ensures) in
    subst (λ (es : List Entry). ArePosted es c.args.out.now.items c.args.out.now.items c.args.reached c.args.reached) (sym none) (posted_none c.args.out.now.items c.args.reached)

pub put_stacked-requires-clause-word : goal.put_stacked-requires-clause-word
put_stacked-requires-clause-word g c = slice_get_within c.args.part.now.words c.args.next.number c.args.word.now c.if-not-is_next.ensures

pub next_of-requires : goal.next_of-requires
next_of-requires g c = slice_get_within c.args.part.now.words c.args.next.number c.args.word.now c.if-not-is_next.ensures

pub returns-clause-next : goal.returns-clause-next
returns-clause-next g c = λ last stands before ahead.
    goes_on last c.args.part.now c.args.next c.args.word.now c.requires.words stands before ahead c.next_of.result c.if-not-is_next.ensures c.next_of.ensures.number c.next_of.ensures.headed

pub returns-clause-posted : goal.returns-clause-posted
returns-clause-posted g c = λ last stands before ahead. c.in_ok-after.ensures.posted c.args.word.now c.if-not-is_next.ensures
