use Rattle.std.proofs.Common.{◌∙◌, ◌==◌, ℕ, ap, sym}
use Rattle.std.specs.List.{list_any}
use Rattle.std.proofs.lemmas.List.Sorted.{IsNonDecreasingBy-from_sort, list_any-IsPermutation}
use Rattle.reshape.proofs.moving.moving_ids.Goals as goal

pub returns-clause-ascend : goal.returns-clause-ascend
returns-clause-ascend g c = IsNonDecreasingBy-from_sort (λ (id : ℕ). id) _ c.sort_unstable.ensures.sorted

pub returns-clause-same : goal.returns-clause-same
returns-clause-same g c =
    λ id. sym (list_any-IsPermutation (λ (other : ℕ). other == id) _ _ c.sort_unstable.ensures.permutation) ∙ ap (list_any (λ (other : ℕ). other == id)) c.in_ok-ids.ensures
