-- A binary search among elements that ascend by a key finds the one that has the key.
use Rattle.std.proofs.Common.{◌≡◌, ℕ, ◌+◌, suc, zero, ◌<◌, Bool, true, false, List, [], ◌∷◌, length, get_or, Some, None, Result, Ok, Err, refl, sym, ap, ◌∙◌, ⊎_elim, arith, AllPairs}
use Rattle.std.specs.List.{position, position_from}
use Rattle.std.specs.List.Sorted.{IsBinarySearchResult, IsSearchInRange, IsSortedBy}
use Rattle.std.specs.Result.{result_ok}
use Rattle.std.specs.Ordering.{is_eq, is_lt}
use Rattle.std.specs.Cmp.{IsTotalOrder}
use Rattle.std.specs.declared.cmp.Ordering.{Ordering}
use Rattle.std.specs.declared.cmp.Ordering.TheVariants.{Less, Greater}
use Rattle.std.proofs.lemmas.Bool.{cases_lt}
use Rattle.std.proofs.lemmas.Cmp.{alike_right}
use Rattle.std.proofs.lemmas.Iterator.Adapters.{position_from-zero}
use Rattle.std.proofs.lemmas.List.Sorted.{searchable_from_sorted}

from_first : {X : Type 0} (p : X → Bool) (xs : List X) (k i m : ℕ) (d : X) → k < length xs → m ≡ i + k → p (get_or xs k d) ≡ true → ((j : ℕ) → j < k → p (get_or xs j d) ≡ false) → position_from p i xs ≡ Some m
from_first p [] k i m d h e hit miss = absurd (omega arith)
from_first p (x ∷ xs) zero i m d h e hit miss = rw hit (ap Some (omega (arith, e)))
from_first p (x ∷ xs) (suc k) i m d h e hit miss = rw (miss zero (omega arith)) (from_first p xs k (i + 1) m d (omega arith) (omega (arith, e)) hit (λ j l. miss (suc j) (omega arith)))

from_none : {X : Type 0} (p : X → Bool) (xs : List X) (i : ℕ) → ((j : ℕ) (d : X) → j < length xs → p (get_or xs j d) ≡ false) → position_from p i xs ≡ None
from_none p [] i miss = refl
from_none p (x ∷ xs) i miss = rw (miss zero x (omega arith)) (from_none p xs (i + 1) (λ j d l. miss (suc j) d (omega arith)))

module _ {K X : Type 0} {R : K → K → Ordering} (o : IsTotalOrder R) (key : X → K) (k : K) (p : X → Bool) (tests : (x : X) → p x ≡ is_eq (R (key x) k)) where
  lesser : (x : X) → R (key x) k ≡ Less → p x ≡ false
  lesser x e = tests x ∙ ap is_eq e

  greater : (x : X) → R (key x) k ≡ Greater → p x ≡ false
  greater x e = tests x ∙ ap is_eq e

  up : (xs : List X) → AllPairs (λ a b. R (key a) (key b) ≡ Less) xs → IsSortedBy (λ a b. is_lt (R (key a) (key b))) xs
  up xs ascend n d low high = rw (o.antisymm (key (get_or xs (n + 1) d)) (key (get_or xs n d)), ascend n (n + 1) d (omega arith) high) refl

  -- the place that a binary search answers is the first one with the key
  pub found_place : (xs : List X) → AllPairs (λ a b. R (key a) (key b) ≡ Less) xs → (r : Result ℕ ℕ) → IsSearchInRange r (length xs) → IsBinarySearchResult (λ x. R (key x) k) xs r → result_ok r ≡ position p xs
  found_place [] ascend (Ok i) range search = absurd (omega arith)
  found_place (x ∷ xs) ascend (Ok i) range search =
      let all : List X = x ∷ xs in
      let hit : p (get_or all i x) ≡ true = tests (get_or all i x) ∙ ap is_eq (search x) in
      let miss : (j : ℕ) → j < i → p (get_or all j x) ≡ false =
      λ j l. lesser (get_or all j x) (sym (alike_right o (key (get_or all i x)) k (key (get_or all j x)) (search x)) ∙ ascend j i x l range) in
      sym (position_from-zero p all ∙ from_first p all i 0 i x range (omega arith) hit miss)
  found_place xs ascend (Err i) range search =
      let cut = search (searchable_from_sorted o key xs k (up xs ascend)) in
      let miss : (j : ℕ) (d : X) → j < length xs → p (get_or xs j d) ≡ false =
      λ j d l. ⊎_elim (λ below. lesser (get_or xs j d) (cut.0 j d (omega arith) below)) (λ above. greater (get_or xs j d) (cut.1 j d above l)) (cases_lt j i) in
      sym (position_from-zero p xs ∙ from_none p xs 0 miss)
