-- Numbers in any order have one sum.
use Rattle.std.proofs.Common.{◌≡◌, ◌∙◌, ℕ, suc, ℤ, pos, negsuc, ◌+ℤ◌, List, [], ◌∷◌, ap, sym, refl, arith}
use Rattle.std.specs.Prelude.{IsPermutation, fold, sum_by}
use Rattle.std.proofs.Math.IntN.{+ℤ_assoc, +ℤ_comm, +ℤ_idr, pos-+ℤ-pos}
use Rattle.std.proofs.lemmas.List.Sorted.{sum_by-IsPermutation}
use Rattle.std.proofs.lemmas.List.Sums.{sum_by-cons}
use Rattle.group_facet.specs.Folds.{total}

-- how far a number is above 0, and how far below
up : ℤ → ℕ
up (pos n) = n
up (negsuc n) = 0

down : ℤ → ℕ
down (pos n) = 0
down (negsuc n) = suc n

both : (z : ℤ) → z +ℤ pos (down z) ≡ pos (up z)
unfolding up down
both (pos n) = +ℤ_idr (pos n)
both (negsuc n) = grind arith

one_more : (a x sum ups downs : ℤ) (u d : ℤ) → x +ℤ d ≡ u → sum +ℤ downs ≡ (a +ℤ x) +ℤ ups → sum +ℤ (d +ℤ downs) ≡ a +ℤ (u +ℤ ups)
one_more a x sum ups downs u d this rest =
    ap (λ z. sum +ℤ z) (+ℤ_comm d downs) ∙ sym (+ℤ_assoc sum downs d) ∙ ap (λ z. z +ℤ d) rest ∙ +ℤ_assoc (a +ℤ x) ups d
    ∙ ap (λ z. (a +ℤ x) +ℤ z) (+ℤ_comm ups d) ∙ +ℤ_assoc a x (d +ℤ ups) ∙ ap (λ z. a +ℤ z) (sym (+ℤ_assoc x d ups)) ∙ ap (λ z. a +ℤ (z +ℤ ups)) this

-- the sum is what is above 0 less what is below
parts : (a : ℤ) (xs : List ℤ) → fold (λ sum value. sum +ℤ value) a xs +ℤ pos (sum_by down xs) ≡ a +ℤ pos (sum_by up xs)
parts a [] = refl
parts a (x ∷ xs) =
    ap (λ n. fold (λ sum value. sum +ℤ value) (a +ℤ x) xs +ℤ pos n) (sum_by-cons down x xs)
    ∙ ap (λ z. fold (λ sum value. sum +ℤ value) (a +ℤ x) xs +ℤ z) (sym (pos-+ℤ-pos (down x) (sum_by down xs)))
    ∙ one_more a x (fold (λ sum value. sum +ℤ value) (a +ℤ x) xs) (pos (sum_by up xs)) (pos (sum_by down xs)) (pos (up x)) (pos (down x)) (both x) (parts (a +ℤ x) xs)
    ∙ ap (λ z. a +ℤ z) (pos-+ℤ-pos (up x) (sum_by up xs))
    ∙ sym (ap (λ n. a +ℤ pos n) (sum_by-cons up x xs))

less : (a b c d : ℤ) → a +ℤ c ≡ pos 0 +ℤ d → b +ℤ c ≡ pos 0 +ℤ d → a ≡ b
less a b c d one two = grind (arith, one, two)

pub total_moved : (xs ys : List ℤ) → IsPermutation xs ys → total xs ≡ total ys
total_moved xs ys moved =
    less (total xs) (total ys) (pos (sum_by down xs)) (pos (sum_by up xs)) (parts (pos 0) xs)
    (ap (λ n. total ys +ℤ pos n) (sym (sum_by-IsPermutation down xs ys moved)) ∙ parts (pos 0) ys ∙ ap (λ n. pos 0 +ℤ pos n) (sum_by-IsPermutation up xs ys moved))
