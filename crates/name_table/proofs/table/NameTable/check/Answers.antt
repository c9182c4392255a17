use Rattle.std.proofs.Common.{Bor, List, ℕ, rules}
use Rattle.std.specs.Ordering.{nat_cmp, is_lt}
use Rattle.std.specs.Cmp.Lexicographic.{slice_cmp}
use Rattle.std.proofs.lemmas.List.Sorted.{answers_always}
use Rattle.name_table.proofs.OrderLemmas.{checked}
use Rattle.name_table.proofs.table.NameTable.check.Goals as goal

pub returns : goal.returns
returns g c =
    rw (← c.self.view_is) (checked c.self.inside.words.now c.is_sorted_by.result
    (c.is_sorted_by.ensures.cases (λ (word next : Bor (List ℕ)). is_lt (slice_cmp nat_cmp word.now next.now)) (answers_always _ _ _ (λ f a r f' k. search rules))))
