use Rattle.std.proofs.Common.{ℕ, ◌++◌, List, get_or, ap, ◌∙◌}
use Rattle.std.specs.List.{filter}
use Rattle.occ_lists.specs.declared.occ.Occ.{Occ}
use Rattle.occ_lists.specs.steps.Ends.{ends_at, last_of, to_each}
use Rattle.occ_lists.proofs.WindowMembers.{made_all, made_more}
use Rattle.occ_lists.proofs.windows.Proximity.put_both.Goals as goal

pub loop-from-preserved : goal.loop-from-preserved
loop-from-preserved c =
    let proximity = c.args.self.now in
    let items = c.deref-from-items.result.now in
    let part : ℕ × ℕ → List Occ = λ from. to_each from (filter (ends_at proximity from) proximity.all.items) in
    let last : ℕ × ℕ → List Occ = λ from. to_each from (last_of (filter (ends_at proximity from) proximity.all.items)) in
    let grown = c.in_ok-put_each.ensures ∙ ap (λ (ends : List (ℕ × ℕ)). c.loop-from.out.items ++ to_each (get_or items c.loop-from.from-index (0, 0)) ends) c.ends_from-ends.ensures in
    let longer = c.in_ok-put_last.ensures ∙ ap (λ (ends : List (ℕ × ℕ)). c.loop-from.longest.items ++ to_each (get_or items c.loop-from.from-index (0, 0)) (last_of ends)) c.ends_from-ends.ensures in
    record {
      made = made_more part items proximity.all.items c.loop-from.from-index (0, 0) c.args.out.now.items c.loop-from.out.items c.put_each.new.out.items c.deref-from-items.ensures.value c.loop-from-test.true c.loop-from.invariant.made grown;
      widest = made_more last items proximity.all.items c.loop-from.from-index (0, 0) c.args.longest.now.items c.loop-from.longest.items c.put_last.new.out.items c.deref-from-items.ensures.value c.loop-from-test.true c.loop-from.invariant.widest longer;
    }

pub returns-clause-made : goal.returns-clause-made
returns-clause-made c =
    let proximity = c.args.self.now in
    let part : ℕ × ℕ → List Occ = λ from. to_each from (filter (ends_at proximity from) proximity.all.items) in
    made_all part c.deref-from-items.result.now proximity.all.items c.loop-from.from-index c.args.out.now.items c.loop-from.out.items c.deref-from-items.ensures.value c.loop-from-test.false c.loop-from.invariant.made

pub returns-clause-widest : goal.returns-clause-widest
returns-clause-widest c =
    let proximity = c.args.self.now in
    let last : ℕ × ℕ → List Occ = λ from. to_each from (last_of (filter (ends_at proximity from) proximity.all.items)) in
    made_all last c.deref-from-items.result.now proximity.all.items c.loop-from.from-index c.args.longest.now.items c.loop-from.longest.items c.deref-from-items.ensures.value c.loop-from-test.false c.loop-from.invariant.widest
