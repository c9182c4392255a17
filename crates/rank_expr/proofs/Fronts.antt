-- The front of a text whose bytes pass a test.
use Rattle.std.proofs.Common.{◌≡◌, ℕ, ◌<◌, Bool, true, List, take, sym, subst, arith}
use Rattle.std.specs.List.{list_all, prefix_len}
use Rattle.std.proofs.lemmas.List.{get_or-take}
use Rattle.std.proofs.lemmas.List.Elements.{All-from_get_or}
use Rattle.std.proofs.lemmas.List.Folds.{length-prefix_len}
use Rattle.std.proofs.lemmas.List.Sums.{prefix_len_passes, list_all-from_AllPass}

pub front_passes : (p : ℕ → Bool) (text : List ℕ) → list_all p (take (prefix_len p text) text) ≡ true
front_passes p text =
    list_all-from_AllPass p _ (All-from_get_or (λ b. p b ≡ true) _ 0 (λ k below.
    let size : k < prefix_len p text = omega (arith, length-prefix_len p text) in
    subst (λ b. p b ≡ true) (sym (get_or-take (prefix_len p text) text k 0 size)) (prefix_len_passes p text k 0 size)))
