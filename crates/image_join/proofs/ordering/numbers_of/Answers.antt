use Rattle.std.proofs.Common.{◌≡◌, ◌∙◌, ℕ, List, ap, get_or, set, slice_index, length, rules, sym, arith, subst}
use Rattle.std.specs.Vec.{with_items}
use Rattle.std.proofs.lemmas.List.{length-set, with_items_is}
use Rattle.image_join.proofs.Laid.{laid_at}
use Rattle.image_join.proofs.Numbers.{AreSet, blank, numbered, set_more, set_none}
use Rattle.image_join.specs.steps.Numbering.{place_in}
use Rattle.image_join.specs.steps.Parts.{PartValue}
use Rattle.image_join.proofs.ordering.numbers_of.Goals as goal

pub loop-number-init : goal.loop-number-init
loop-number-init g c = set_none c.args.parts.now c.args.order.now c.args.count c.in_ok-numbers.numbers.items c.requires.count (c.in_ok-numbers.ensures.items_if_clones_equal (λ y k. search rules))

pub set_number-requires : goal.set_number-requires
set_number-requires g c =
    let living = get_or c.args.order.now c.loop-number.number blank in
    let its = c.requires.there c.loop-number.number blank c.loop-number-test.true in
    let at = laid_at 0 c.args.parts.now living.part living.row (place_in c.args.parts.now living) c.requires.laid its.part its.row (omega arith) in
    omega (arith, at.0, c.place_of-place.ensures, c.loop-number.invariant.long, ap length c.deref_mut.ensures.value)

pub loop-number-preserved : goal.loop-number-preserved
loop-number-preserved g c =
    let parts : List PartValue = c.args.parts.now in
    let order = c.args.order.now in
    let n = c.loop-number.number in
    let numbers = c.loop-number.numbers.items in
    let living = get_or order n blank in
    let its = c.requires.there n blank c.loop-number-test.true in
    let at = laid_at 0 parts living.part living.row (place_in parts living) c.requires.laid its.part its.row (omega arith) in
    let place : c.place_of-place.result ≡ place_in parts living = c.place_of-place.ensures in
    let value : c.deref_mut.result.now ≡ numbers = c.deref_mut.ensures.value in
    let none : slice_index numbers c.place_of-place.result ≡ 4294967295 = subst (λ (l : List ℕ). slice_index l c.place_of-place.result ≡ 4294967295) value c.in_ok-set_number.ensures.was in
    let put : c.set_number.new.numbers ≡ set numbers c.place_of-place.result n = subst (λ (l : List ℕ). c.set_number.new.numbers ≡ set l c.place_of-place.result n) value c.in_ok-set_number.ensures.is in
    let size : length c.set_number.new.numbers ≡ c.loop-number.numbers.len = ap length put ∙ length-set numbers c.place_of-place.result n ∙ sym c.loop-number.numbers.ok.0 in
    let written : (with_items c.loop-number.numbers c.set_number.new.numbers).items ≡ set numbers c.place_of-place.result n = with_items_is c.loop-number.numbers c.set_number.new.numbers size ∙ put in
    set_more parts order n c.place_of-place.result numbers (with_items c.loop-number.numbers c.set_number.new.numbers).items c.loop-number-test.true (omega (arith, c.loop-number-test.true, c.in_ok-count_in.ensures.small)) place
    (omega (arith, place, at.0, c.loop-number.invariant.long)) none written c.loop-number.invariant

pub returns : goal.returns
returns g c =
    let parts : List PartValue = c.args.parts.now in
    let order = c.args.order.now in
    let all : c.loop-number.number ≡ length order = omega arith in
    numbered parts order c.loop-number.numbers.items c.requires.laid c.requires.there (omega (arith, c.in_ok-count_in.ensures.small)) (subst (λ n. AreSet parts order n c.loop-number.numbers.items) all c.loop-number.invariant)
