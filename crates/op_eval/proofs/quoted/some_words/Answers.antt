use Rattle.std.proofs.Common.{arith, ◌≡◌, ◌∙◌, ap, sym, ◌+◌, ◌++◌, ◌∷◌, [], ℕ, List}
use Rattle.std.specs.List.{range_with_len}
use Rattle.row_plans.proofs.LivingRows.{range_more}
use Rattle.op_eval.proofs.quoted.some_words.Goals as goal

pub loop-preserved : goal.loop-preserved
loop-preserved c = λ l.
    let so = c.loop.invariant l in
    let number : c.min.result ≡ c.args.next.now + c.loop.counter = omega (arith, l, so.0, c.min.ensures, c.requires, c.loop-test.true) in (
      omega (arith, l, so.0, c.saturating_add.ensures, c.requires, c.loop-test.true),
      c.in_ok-push.ensures.items ∙ ap (λ (xs : List ℕ). xs ++ c.min.result ∷ []) so.1
          ∙ ap (λ (n : ℕ). range_with_len c.args.next.now c.loop.counter ++ n ∷ []) number ∙ sym (range_more c.args.next.now c.loop.counter),
    )
