use Rattle.std.proofs.Common.{◌≡◌, ◌-◌, ◌^◌, min, take, length}
use Rattle.std.specs.List.{sum_by}
use Rattle.query_grammar.specs.Queries.{keys_of}
use Rattle.query_read.proofs.reading.count_keywords.Given as goal

abbrev pub invariant-loop-mark : goal.invariant-loop-mark
invariant-loop-mark l = l.count ≡ min (sum_by (λ m. length (keys_of m.sign)) (take l.mark-index l.marks)) (2 ^ 64 - 1)
