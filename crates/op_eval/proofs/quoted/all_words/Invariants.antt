use Rattle.std.proofs.Common.{◌≡◌, ◌≤◌, length, ◌+◌, ℕ, Bool}
use Rattle.std.specs.List.{list_all, range_with_len}
use Rattle.row_plans.specs.Plans.{holds}
use Rattle.op_eval.proofs.quoted.all_words.Given as goal

abbrev pub invariant-loop : goal.invariant-loop
invariant-loop l = (l.fn.next + l.count ≤ length l.counts) → (l.next ≡ l.fn.next + l.counter) × ((has : ℕ → Bool) → list_all (holds has) l.parts.plans.items ≡ list_all has (range_with_len l.fn.next l.counter))
