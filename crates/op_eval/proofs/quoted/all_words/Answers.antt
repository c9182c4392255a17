use Rattle.std.proofs.Common.{arith, ◌≡◌, ◌∙◌, ap, ◌<◌, length}
use Rattle.std.specs.Prelude.{◌&&◌}
use Rattle.std.specs.List.{list_all, range_with_len}
use Rattle.row_plans.specs.Plans.{holds}
use Rattle.row_plans.proofs.HowFar.{holds_all, holds_word}
use Rattle.op_eval.proofs.Numbering.{all_numbers}
use Rattle.op_eval.proofs.quoted.all_words.Goals as goal

pub loop-preserved : goal.loop-preserved
loop-preserved c = λ l.
    let so = c.loop.invariant l in
    let there : c.loop.next < length c.args.counts.now = omega (arith, l, so.0, c.loop-test.true) in (
      omega (arith, so.0, c.word.ensures.next there),
      λ has.
          c.in_ok-put.ensures (holds has) ∙ ap (λ b. b && list_all (holds has) c.loop.parts.plans.items) (ap (holds has) (c.word.ensures.plan there) ∙ holds_word has c.loop.next)
          ∙ all_numbers has c.args.next.now c.loop.counter c.loop.next _ so.0 (so.1 has),
    )

pub returns-clause-next : goal.returns-clause-next
returns-clause-next c = λ l. omega (arith, (c.loop.invariant l).0, c.loop-test.false, c.loop.auto.counter-end)

pub returns-clause-plan : goal.returns-clause-plan
returns-clause-plan c = λ l has.
    let end : c.loop.counter ≡ c.args.count = omega (arith, c.loop-test.false, c.loop.auto.counter-end) in
    ap (holds has) c.all.ensures ∙ holds_all has c.loop.parts.plans.items ∙ (c.loop.invariant l).1 has ∙ ap (λ n. list_all has (range_with_len c.args.next.now n)) end
