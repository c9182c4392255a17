use Rattle.std.proofs.Common.{List, None, Option, Some, ℕ, subst}
use Rattle.std.specs.Borrow.{Bor}
use Rattle.std.specs.Option.{option_map}
use Rattle.image_join.proofs.Least.{IsLeastTo, least_found, least_put, none_left}
use Rattle.image_join.proofs.nexts.least_of_head.Goals as goal

-- the word that a borrowed one is
abbrev value : Option (Bor (List ℕ)) → Option (List ℕ)
value word = option_map (λ (lent : Bor (List ℕ)). lent.now) word

pub loop-number-preserved : goal.loop-number-preserved
loop-number-preserved g c = λ last stand.
    least_put last c.args.parts.now c.args.nexts.now c.requires.words stand c.requires.least.0 c.args.head c.requires.least.1 c.loop-number.number c.index-parts-number.result (value c.loop-number.least) (value c.word_with.result) (value c.lesser-least.result)
    c.loop-number-test.true c.index-parts-number.is c.word_with.ensures c.lesser-least.ensures (c.loop-number.invariant last stand)

pub returns-in-Some : goal.returns-in-Some
returns-in-Some g c = λ last stand.
    let is : IsLeastTo last c.args.parts.now c.args.nexts.now c.args.head c.loop-number.number (Some c.in-Some.word.now) = subst (λ word. IsLeastTo last c.args.parts.now c.args.nexts.now c.args.head c.loop-number.number (value word)) c.in-Some.is (c.loop-number.invariant last stand) in
    (least_found last c.args.parts.now c.args.nexts.now c.requires.words stand c.requires.least.0 c.args.head c.requires.least.1 c.loop-number.number c.in-Some.word.now c.loop-number-test.false is, is.0)

pub returns-in-None : goal.returns-in-None
returns-in-None g c = λ last stand.
    let is : IsLeastTo last c.args.parts.now c.args.nexts.now c.args.head c.loop-number.number None = subst (λ word. IsLeastTo last c.args.parts.now c.args.nexts.now c.args.head c.loop-number.number (value word)) c.in-None.is (c.loop-number.invariant last stand) in
    none_left last c.args.parts.now c.args.nexts.now c.requires.words stand c.requires.least.0 c.args.head c.requires.least.1 c.loop-number.number c.loop-number-test.false is
