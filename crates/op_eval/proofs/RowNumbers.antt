-- The numbers of the rows that pass, row by row; and whether a number is among those of dead rows, which ascend.
use Rattle.std.proofs.Common.{◌≡◌, ℕ, ◌+◌, ◌<◌, ◌≤◌, Bool, true, false, ◌==◌, cond, List, [], ◌∷◌, ◌++◌, length, map, take, get_or, Result, Ok, Err, refl, sym, ap, ◌∙◌, inl, inr, arith}
use Rattle.std.specs.List.{AllPairs, filter, list_any, enumerate_from}
use Rattle.std.specs.List.Sorted.{IsBinarySearchResult, IsSearchInRange, IsNonDecreasingBy}
use Rattle.std.specs.Ordering.{nat_cmp, ordering_index}
use Rattle.std.specs.Result.{is_ok}
use Rattle.std.specs.declared.cmp.Ordering.TheVariants.{Less, Equal, Greater}
use Rattle.std.proofs.lemmas.Bool.{cases_eq, cases_lt}
use Rattle.std.proofs.lemmas.Bool.Decides.{nat_tests}
use Rattle.std.proofs.lemmas.List.{take_all, map-append}
use Rattle.std.proofs.lemmas.List.Elements.{filter_more}
use Rattle.std.proofs.lemmas.List.Folds.{list_any_at, list_any_none}
use Rattle.std.proofs.lemmas.List.FromFn.{length-enumerate_from, get_or-enumerate_from}
use Rattle.op_eval.specs.steps.Wanted.{numbers_of, numbers_before}

-- ---- whether a number is among numbers that ascend
same_number : (p q : ℕ) → nat_cmp p q ≡ Equal → (p == q) ≡ true
same_number p q same = grind (arith, nat_tests)

lower_number : (p q : ℕ) → nat_cmp p q ≡ Less → (p == q) ≡ false
lower_number p q less = grind (arith, nat_tests)

higher_number : (p q : ℕ) → nat_cmp p q ≡ Greater → (p == q) ≡ false
higher_number p q greater = grind (arith, nat_tests)

compared_up : (p later q : ℕ) → p < later → ordering_index (nat_cmp p q) ≤ ordering_index (nat_cmp later q)
compared_up p later q before = grind (arith, nat_tests)

compared : (numbers : List ℕ) (number : ℕ) → AllPairs (λ n later. n < later) numbers → IsNonDecreasingBy (λ n. ordering_index (nat_cmp n number)) numbers
compared numbers number ascend i j d up within = elim (cases_eq i j) [
  | inl same ↦ rw same (omega arith)
  | inr other ↦ compared_up (get_or numbers i d) (get_or numbers j d) number (ascend i j d (omega arith) within)
]

-- what a search among them finds
pub number_found : (numbers : List ℕ) (number : ℕ) (found : Result ℕ ℕ) → AllPairs (λ n later. n < later) numbers → IsSearchInRange found (length numbers) → IsBinarySearchResult (λ n. nat_cmp n number) numbers found → is_ok found ≡ list_any (λ n. n == number) numbers
number_found numbers number (Ok i) ascend within position = sym (list_any_at (λ n. n == number) numbers i number within (same_number (get_or numbers i number) number (position number)))
number_found numbers number (Err i) ascend within position =
    let parts = position (compared numbers number ascend) in
    sym (list_any_none (λ n. n == number) numbers (λ k d h. elim (cases_lt k i) [
      | inl before ↦ lower_number (get_or numbers k d) number (parts.0 k d (omega arith) before)
      | inr after ↦ higher_number (get_or numbers k d) number (parts.1 k d after h)
    ]))

-- ---- the numbers of rows that pass
one_kept : {X : Type 0} (b : Bool) (i : ℕ) (x : X) → map (λ (e : ℕ × X). e.0) (cond b ((i, x) ∷ []) []) ≡ cond b (i ∷ []) []
one_kept true i x = refl
one_kept false i x = refl

-- one row more
pub next_kept : {X : Type 0} (passes : ℕ × X → Bool) (xs : List X) (i : ℕ) (x : X) → i < length xs → numbers_before passes (i + 1) xs ≡ numbers_before passes i xs ++ cond (passes (i, get_or xs i x)) (i ∷ []) []
next_kept {X = X} passes xs i x within =
    let es : List (ℕ × X) = enumerate_from 0 xs in
    let zeroth : 0 + i ≡ i = omega arith in
    let here : get_or es i (i, x) ≡ (i, get_or xs i x) = get_or-enumerate_from 0 xs i (i, x) within ∙ ap (λ n. (n, get_or xs i x)) zeroth in
    ap (map (λ e. e.0)) (filter_more passes es i (i, x) (omega (arith, length-enumerate_from 0 xs)))
    ∙ ap (λ (e : ℕ × X). map (λ (e : ℕ × X). e.0) (filter passes (take i es) ++ cond (passes e) (e ∷ []) [])) here
    ∙ map-append (λ (e : ℕ × X). e.0) (filter passes (take i es)) (cond (passes (i, get_or xs i x)) ((i, get_or xs i x) ∷ []) [])
    ∙ ap (λ ns. numbers_before passes i xs ++ ns) (one_kept (passes (i, get_or xs i x)) i (get_or xs i x))

-- one that passes, or not
pub next_passes : {X : Type 0} (passes : ℕ × X → Bool) (xs : List X) (i : ℕ) (x : X) (b : Bool) → i < length xs → passes (i, get_or xs i x) ≡ b → numbers_before passes (i + 1) xs ≡ numbers_before passes i xs ++ cond b (i ∷ []) []
next_passes passes xs i x b within is = next_kept passes xs i x within ∙ ap (λ c. numbers_before passes i xs ++ cond c (i ∷ []) []) is

-- all rows
pub all_before : {X : Type 0} (passes : ℕ × X → Bool) (xs : List X) (n : ℕ) → length xs ≤ n → numbers_before passes n xs ≡ numbers_of passes xs
all_before passes xs n long = ap (λ es. map (λ e. e.0) (filter passes es)) (take_all n (enumerate_from 0 xs) (omega (arith, length-enumerate_from 0 xs)))
