use Rattle.std.proofs.Common.{◌≡◌, ◌≤◌, length, ◌+◌}
use Rattle.std.specs.List.{range_with_len}
use Rattle.op_eval.proofs.quoted.some_words.Given as goal

abbrev pub invariant-loop : goal.invariant-loop
invariant-loop l = (l.fn.next + l.count ≤ length l.counts) → (l.next ≡ l.fn.next + l.counter) × (l.words.items ≡ range_with_len l.fn.next l.counter)
