use Rattle.std.proofs.Common.{◌+◌, ◌-◌, ◌/◌, ◌<◌, List, Option, map, subst, arith}
use Rattle.charset_map.specs.declared.span.Span.{Span}
use Rattle.charset_map.specs.steps.Gathering.{Joins, span_in}
use Rattle.charset_map.proofs.Joining.{clash_later, clash_sooner}
use Rattle.charset_map.proofs.gathering.first_clash.Goals.{in-Some, in-None}
use Rattle.charset_map.proofs.gathering.first_clash.Goals as goal

pub halves-preserved-after-branch-2 : goal.halves-preserved-after-branch-2
halves-preserved-after-branch-2 c =
    let middle = c.halves.low + (c.halves.high - c.halves.low) / 2 in
    let after : c.halves.low < middle = omega (arith, c.halves-test.true, c.halves.invariant.order) in
    let before : middle < c.halves.high = omega (arith, c.halves-test.true, c.halves.invariant.order) in
    let list = c.args.list.now in
    let front = c.split_at.result.0.now in
    let says : Joins (map span_in front) c.in_ok-joined.field-0 = c.in_ok-joined.ensures in
    elim c.match-branch-2.branch [
      | in-Some w ↦ rw (w.low-is, w.high-is) (clash_later list front c.halves.low middle c.halves.high c.halves.invariant before c.split_at.ensures.front
          (subst (λ (o : Option (List Span)). Joins (map span_in front) o) w.in-Some.is says).0)
      | in-None w ↦ rw (w.low-is, w.high-is) (clash_sooner list front c.halves.low middle c.halves.high c.halves.invariant after before c.split_at.ensures.front
          (subst (λ (o : Option (List Span)). Joins (map span_in front) o) w.in-None.is says))
    ]

pub halves-preserved : goal.halves-preserved
halves-preserved c =
    let middle = c.halves.low + (c.halves.high - c.halves.low) / 2 in
    let after : c.halves.low < middle = omega (arith, c.halves-test.true, c.halves.invariant.order) in
    let before : middle < c.halves.high = omega (arith, c.halves-test.true, c.halves.invariant.order) in
    let list = c.args.list.now in
    let front = c.split_at.result.0.now in
    let says : Joins (map span_in front) c.in_ok-joined.field-0 = c.in_ok-joined.ensures in
    elim c.match-branch-2.branch [
      | in-Some w ↦ rw (w.low-is, w.high-is) (clash_later list front c.halves.low middle c.halves.high c.halves.invariant before c.split_at.ensures.front
          (subst (λ (o : Option (List Span)). Joins (map span_in front) o) w.in-Some.is says).0)
      | in-None w ↦ rw (w.low-is, w.high-is) (clash_sooner list front c.halves.low middle c.halves.high c.halves.invariant after before c.split_at.ensures.front
          (subst (λ (o : Option (List Span)). Joins (map span_in front) o) w.in-None.is says))
    ]
