-- Lists by place: what stands where once one element was put or set.
use Rattle.std.proofs.Common.{◌≡◌, ◌⊎◌, inl, inr, ⊎_elim, ℕ, zero, suc, ◌<◌, List, [], ◌∷◌, ◌++◌, length, take, Some, slice_get, slice_set, refl, ap, subst, arith}
use Rattle.std.specs.List.{AllZip}

pub get_set_same : {A : Type 0} (xs : List A) (k : ℕ) (x : A) → k < length xs → slice_get (slice_set xs k x) k ≡ Some x
get_set_same [] k x within = absurd (omega arith)
get_set_same (y ∷ ys) zero x within = refl
get_set_same (y ∷ ys) (suc k) x within = get_set_same ys k x (omega arith)

pub get_set_cases : {A : Type 0} (xs : List A) (k j : ℕ) (x y : A) → slice_get (slice_set xs k x) j ≡ Some y → ((j ≡ k) × (y ≡ x)) ⊎ (slice_get xs j ≡ Some y)
get_set_cases [] k j x y at = inr at
get_set_cases (z ∷ zs) zero zero x y at = inl (refl, cc)
get_set_cases (z ∷ zs) zero (suc j) x y at = inr at
get_set_cases (z ∷ zs) (suc k) zero x y at = inr at
get_set_cases (z ∷ zs) (suc k) (suc j) x y at =
    ⊎_elim (λ (same : (j ≡ k) × (y ≡ x)). inl (ap suc same.0, same.1)) (λ (other : slice_get zs j ≡ Some y). inr other) (get_set_cases zs k j x y at)

pub zip_same : {A : Type 0} (R : A → A → Type 0) → ((x : A) → R x x) → (xs : List A) → AllZip R xs xs
zip_same R same [] = tt
zip_same R same (x ∷ xs) = (same x, zip_same R same xs)

pub zip_set : {A : Type 0} (R : A → A → Type 0) → ((x : A) → R x x) → (xs : List A) (k : ℕ) (x y : A) → slice_get xs k ≡ Some x → R x y → AllZip R xs (slice_set xs k y)
zip_set R same [] k x y at related = absurd cc
zip_set R same (z ∷ zs) zero x y at related = let e : x ≡ z = cc in (subst (λ w. R w y) e related, zip_same R same zs)
zip_set R same (z ∷ zs) (suc k) x y at related = (same z, zip_set R same zs k x y at related)

pub get_end : {A : Type 0} (xs : List A) (y : A) (k : ℕ) → k ≡ length xs → slice_get (xs ++ y ∷ []) k ≡ Some y
get_end [] y zero is = refl
get_end [] y (suc k) is = absurd (omega arith)
get_end (x ∷ xs) y zero is = absurd (omega arith)
get_end (x ∷ xs) y (suc k) is = get_end xs y k (omega arith)

pub get_more : {A : Type 0} (xs : List A) (y z : A) (k : ℕ) → slice_get xs k ≡ Some z → slice_get (xs ++ y ∷ []) k ≡ Some z
get_more [] y z k at = absurd cc
get_more (x ∷ xs) y z zero at = at
get_more (x ∷ xs) y z (suc k) at = get_more xs y z k at

pub get_more_cases : {A : Type 0} (xs : List A) (y z : A) (k : ℕ) → slice_get (xs ++ y ∷ []) k ≡ Some z → ((k ≡ length xs) × (z ≡ y)) ⊎ (slice_get xs k ≡ Some z)
get_more_cases [] y z zero at = inl (refl, cc)
get_more_cases [] y z (suc k) at = absurd cc
get_more_cases (x ∷ xs) y z zero at = inr at
get_more_cases (x ∷ xs) y z (suc k) at =
    ⊎_elim (λ (same : (k ≡ length xs) × (z ≡ y)). inl (ap suc same.0, same.1)) (λ (other : slice_get xs k ≡ Some z). inr other) (get_more_cases xs y z k at)

pub get_taken : {A : Type 0} (xs : List A) (n k : ℕ) → k < n → slice_get (take n xs) k ≡ slice_get xs k
get_taken xs zero k within = absurd (omega arith)
get_taken [] (suc n) k within = refl
get_taken (x ∷ xs) (suc n) zero within = refl
get_taken (x ∷ xs) (suc n) (suc k) within = get_taken xs n k (omega arith)

pub get_take : {A : Type 0} (xs : List A) (n k : ℕ) (y : A) → slice_get (take n xs) k ≡ Some y → slice_get xs k ≡ Some y
get_take xs zero k y at = absurd cc
get_take [] (suc n) k y at = at
get_take (x ∷ xs) (suc n) zero y at = at
get_take (x ∷ xs) (suc n) (suc k) y at = get_take xs n k y at
