use Rattle.std.proofs.Common.{◌≤◌, ◌<◌, ◌∙◌, refl, ap, subst, arith, length, ℕ, List}
use mathlib.Core.List.{IsPrefix}
use Rattle.step_book.specs.Shares.{ShareValue}
use Rattle.step_book.proofs.Prefixes.{prefix_shorter}
use Rattle.step_book.proofs.share.Share.follow.Goals as goal

pub returns-then-other-self : goal.returns-then-other-self
returns-then-other-self g c =
    let steps_self = ap (λ (s : ShareValue). s.calls) c.self.view_is in
    let steps_other = ap (λ (s : ShareValue). s.calls) c.other.view_is in
    let both = c.learn.new.self.log in
    let this : IsPrefix c.self.inside.past.seen.log both = subst (λ (l : List ℕ). IsPrefix l both) (ap (λ s. s.log) c.again-both.ensures) c.learn.ensures.2 in
    let less : length c.other.inside.past.seen.log < length c.self.inside.past.seen.log = (let l = c.if-other-self.true in let a = c.self.inside.past.counted in let b = c.other.inside.past.counted in omega (arith, l, a, b)) in (
      refl,
      rw (← steps_self, ← steps_other) (prefix_shorter c.other.inside.past.seen.log c.self.inside.past.seen.log both c.learn.ensures.3 this (omega (arith, less))),
      rw (← steps_self, ← steps_other) less,
    )

pub returns : goal.returns
returns g c =
    let steps_self = ap (λ (s : ShareValue). s.calls) c.self.view_is in
    let steps_other = ap (λ (s : ShareValue). s.calls) c.other.view_is in
    let both = c.learn.new.self.log in
    let this : IsPrefix c.self.inside.past.seen.log both = subst (λ (l : List ℕ). IsPrefix l both) (ap (λ s. s.log) c.again-both.ensures) c.learn.ensures.2 in
    let less : length c.self.inside.past.seen.log ≤ length c.other.inside.past.seen.log = (let l = c.if-other-self.false in let a = c.self.inside.past.counted in let b = c.other.inside.past.counted in omega (arith, l, a, b)) in
    (c.drop.view_is ∙ c.again.ensures, rw (← steps_self, ← steps_other) (prefix_shorter c.self.inside.past.seen.log c.other.inside.past.seen.log both this c.learn.ensures.3 less))
