-- Counts of the elements of a list that pass a test.
use Rattle.std.proofs.Common.{◌≡◌, ◌+◌, Bool, true, false, cond, ◌&&◌, List, [], ◌∷◌, refl, sym, ap, ◌∙◌, arith}
use Rattle.std.specs.List.{filter, count_by, list_any}
use Rattle.std.proofs.lemmas.Bool.{or_parts}
use Rattle.std.proofs.lemmas.List.Sums.{sum_by-cons}

kept : {X : Type 0} (p : X → Bool) (x : X) (xs : List X) (b : Bool) → count_by p (cond b (x ∷ xs) xs) ≡ cond (b && p x) 1 0 + count_by p xs
kept p x xs true = sum_by-cons (λ y. cond (p y) 1 0) x xs
kept p x xs false = omega arith

-- what passes p of what passes q
pub count_by-filter : {X : Type 0} (p q : X → Bool) (xs : List X) → count_by p (filter q xs) ≡ count_by (λ x. q x && p x) xs
count_by-filter p q [] = refl
count_by-filter p q (x ∷ xs) =
    kept p x (filter q xs) (q x)
    ∙ (ap (λ n. cond (q x && p x) 1 0 + n) (count_by-filter p q xs) ∙ sym (sum_by-cons (λ y. cond (q y && p y) 1 0) x xs))

-- two tests that agree
pub count_by_agree : {X : Type 0} (p q : X → Bool) (xs : List X) → ((x : X) → p x ≡ q x) → count_by p xs ≡ count_by q xs
count_by_agree p q [] h = refl
count_by_agree p q (x ∷ xs) h =
    sum_by-cons (λ y. cond (p y) 1 0) x xs
    ∙ (ap (λ b. cond b 1 0 + count_by p xs) (h x)
    ∙ (ap (λ n. cond (q x) 1 0 + n) (count_by_agree p q xs h) ∙ sym (sum_by-cons (λ y. cond (q y) 1 0) x xs)))

-- a test that none passes
pub count_by_none : {X : Type 0} (p : X → Bool) (xs : List X) → list_any p xs ≡ false → count_by p xs ≡ 0
count_by_none p [] h = refl
count_by_none p (x ∷ xs) h =
    let parts = or_parts (p x) (list_any p xs) h in
    let rest = count_by_none p xs parts.1 in
    sum_by-cons (λ y. cond (p y) 1 0) x xs ∙ (ap (λ b. cond b 1 0 + count_by p xs) parts.0 ∙ omega arith)
