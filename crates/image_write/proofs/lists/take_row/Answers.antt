use Rattle.std.proofs.Common.{◌≡◌, ℕ, ◌∙◌, take, length, map, subst, arith}
use Rattle.image_write.specs.steps.Places.{place_at}
use Rattle.image_write.proofs.Posted.{stopped, taken_all}
use Rattle.image_write.proofs.lists.take_row.Goals as goal

pub returns-then-row-clause-row : goal.returns-then-row-clause-row
returns-then-row-clause-row c =
    stopped c.args.row c.loop-number.number c.args.places.now _ c.loop-number.hits.items c.loop-number-test.true (λ e. c.if-row.true (c.row.ensures ∙ e)) c.requires.first c.loop-number.invariant

pub returns-clause-row : goal.returns-clause-row
returns-clause-row c =
    let all : c.loop-number.number ≡ length c.args.places.now = omega arith in
    taken_all c.args.row c.args.places.now c.loop-number.hits.items c.requires.first
    (subst (λ n. map place_at (take n c.args.places.now) ≡ map (λ (hit : ℕ × ℕ). (c.args.row, hit)) c.loop-number.hits.items) all c.loop-number.invariant)
