-- Whether a number is among those of dead rows, which ascend.
use Rattle.std.proofs.Common.{◌≡◌, ℕ, ◌<◌, ◌≤◌, true, false, ◌==◌, List, length, get_or, Result, Ok, Err, sym, inl, inr, arith}
use Rattle.std.specs.List.{AllPairs, list_any}
use Rattle.std.specs.List.Sorted.{IsBinarySearchResult, IsNonDecreasingBy, IsSearchInRange}
use Rattle.std.specs.Ordering.{nat_cmp, ordering_index}
use Rattle.std.specs.Result.{is_ok}
use Rattle.std.specs.declared.cmp.Ordering.TheVariants.{Less, Equal, Greater}
use Rattle.std.proofs.lemmas.Bool.{cases_eq, cases_lt}
use Rattle.std.proofs.lemmas.Bool.Decides.{nat_tests}
use Rattle.std.proofs.lemmas.List.Folds.{list_any_at, list_any_none}

same_number : (p q : ℕ) → nat_cmp p q ≡ Equal → (p == q) ≡ true
same_number p q same = grind (arith, nat_tests)

lower_number : (p q : ℕ) → nat_cmp p q ≡ Less → (p == q) ≡ false
lower_number p q less = grind (arith, nat_tests)

higher_number : (p q : ℕ) → nat_cmp p q ≡ Greater → (p == q) ≡ false
higher_number p q greater = grind (arith, nat_tests)

compared_up : (p later q : ℕ) → p < later → ordering_index (nat_cmp p q) ≤ ordering_index (nat_cmp later q)
compared_up p later q before = grind (arith, nat_tests)

compared : (numbers : List ℕ) (number : ℕ) → AllPairs (λ n later. n < later) numbers → IsNonDecreasingBy (λ n. ordering_index (nat_cmp n number)) numbers
compared numbers number ascend i j d up within = elim (cases_eq i j) [
  | inl same ↦ rw same (omega arith)
  | inr other ↦ compared_up (get_or numbers i d) (get_or numbers j d) number (ascend i j d (omega arith) within)
]

-- what a search among them finds
pub number_found : (numbers : List ℕ) (number : ℕ) (found : Result ℕ ℕ) → AllPairs (λ n later. n < later) numbers → IsSearchInRange found (length numbers) → IsBinarySearchResult (λ n. nat_cmp n number) numbers found → is_ok found ≡ list_any (λ n. n == number) numbers
number_found numbers number (Ok i) ascend within position = sym (list_any_at (λ n. n == number) numbers i number within (same_number (get_or numbers i number) number (position number)))
number_found numbers number (Err i) ascend within position =
    let parts = position (compared numbers number ascend) in
    sym (list_any_none (λ n. n == number) numbers (λ k d h. elim (cases_lt k i) [
      | inl before ↦ lower_number (get_or numbers k d) number (parts.0 k d (omega arith) before)
      | inr after ↦ higher_number (get_or numbers k d) number (parts.1 k d after h)
    ]))
