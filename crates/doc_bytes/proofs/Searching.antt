-- A binary search among words whose positions ascend finds the one at a position.
use Rattle.std.proofs.Common.{◌≡◌, ℕ, ◌<◌, Bool, true, false, cond, ◌||◌, ◌+◌, List, [], ◌∷◌, length, Some, Result, Ok, Err, eqb, refl, ap, ◌∙◌, arith}
use Rattle.std.specs.Prelude.{is_ok, is_some}
use Rattle.std.specs.List.{list_any, position_from}
use Rattle.std.specs.List.Sorted.{IsBinarySearchResult, IsSearchInRange}
use Rattle.std.specs.Result.{result_ok}
use Rattle.std.specs.Ordering.{is_eq, nat_cmp}
use Rattle.std.specs.declared.cmp.Ordering.TheVariants.{Less}
use Rattle.std.proofs.lemmas.Bool.Decides.{nat_tests}
use Rattle.std.proofs.lemmas.Cmp.{nat_cmp_total}
use Rattle.std.proofs.lemmas.Iterator.Adapters.{position_from-zero}
use Rattle.doc_types.proofs.BinarySearches.{found_place}
use Rattle.doc_types.specs.declared.tokens.TokenWord.{TokenWord}
use Rattle.doc_bytes.specs.Reading.{is_taken}
use Rattle.doc_bytes.specs.steps.Sorted.{AreSorted}

same : (a b : ℕ) → eqb a b ≡ is_eq (nat_cmp a b)
same a b = grind (arith, nat_tests)

is_less : (a b : ℕ) → a < b → nat_cmp a b ≡ Less
is_less a b l = grind (arith, nat_tests)

some_place : {X : Type 0} (p : X → Bool) (n : ℕ) (xs : List X) → is_some (position_from p n xs) ≡ list_any p xs
some_place p n [] = refl
some_place p n (x ∷ xs) = by (p x) (some_place p (n + 1) xs)
  where
    by : (b : Bool) → is_some (position_from p (n + 1) xs) ≡ list_any p xs → is_some (cond b (Some n) (position_from p (n + 1) xs)) ≡ (b || list_any p xs)
    by true rest = refl
    by false rest = rest

ok_some : {A B : Type 0} (r : Result A B) → is_ok r ≡ is_some (result_ok r)
ok_some (Ok x) = refl
ok_some (Err e) = refl

pub found_there : (words : List TokenWord) (at : ℕ) → AreSorted words → (r : Result ℕ ℕ) → IsSearchInRange r (length words) → IsBinarySearchResult (λ (word : TokenWord). nat_cmp word.position at) words r → is_ok r ≡ is_taken words at
found_there words at sorted r range found =
    let test = λ (word : TokenWord). eqb word.position at in
    let place = found_place nat_cmp_total (λ (word : TokenWord). word.position) at test (λ word. same word.position at) words (λ i j d l h. is_less _ _ (sorted i j d l h)) r range found in
    ok_some r ∙ ap is_some (place ∙ position_from-zero test words) ∙ some_place test 0 words
