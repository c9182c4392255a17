-- What stands at a place of lists in step.
use Rattle.std.proofs.Common.{◌≡◌, ℕ, zero, suc, ◌<◌, List, [], ◌∷◌, ◌++◌, length, set, Option, Some, None, slice_get, slice_index_or, refl, ap, subst, ◌∙◌, arith}
use Rattle.std.specs.List.{AllZip, flat_map}
use Rattle.std.specs.Option.{option_to_list}

pub some_is : {A : Type 0} (x y : A) → Some x ≡ Some y → x ≡ y
some_is x y is = cc is

pub get_set_same : {A : Type 0} (xs : List A) (i : ℕ) (x y : A) → slice_get xs i ≡ Some x → slice_get (set xs i y) i ≡ Some y
get_set_same [] i x y is = absurd (cc is)
get_set_same (z ∷ xs) zero x y is = refl
get_set_same (z ∷ xs) (suc i) x y is = get_set_same xs i x y is

pub get_set_other : {A : Type 0} (xs : List A) (i j : ℕ) (y : A) → (i ≡ j → ⊥) → slice_get (set xs i y) j ≡ slice_get xs j
get_set_other [] i j y apart = refl
get_set_other (x ∷ xs) zero zero y apart = absurd (apart refl)
get_set_other (x ∷ xs) zero (suc j) y apart = refl
get_set_other (x ∷ xs) (suc i) zero y apart = refl
get_set_other (x ∷ xs) (suc i) (suc j) y apart = get_set_other xs i j y (λ same. apart (ap suc same))

-- what stands at the same place of a list in step with another
pub zip_at : {A B : Type 0} (R : A → B → Type 0) (xs : List A) (ys : List B) (i : ℕ) (x : A) → AllZip R xs ys → slice_get xs i ≡ Some x → (y : B) × (slice_get ys i ≡ Some y) × R x y
zip_at R [] ys i x all is = absurd (cc is)
zip_at R (z ∷ xs) [] i x all is = absurd all
zip_at R (z ∷ xs) (y ∷ ys) zero x all is = (y, refl, subst (λ z. R z y) (some_is z x is) all.0)
zip_at R (z ∷ xs) (y ∷ ys) (suc i) x all is = zip_at R xs ys i x all.1 is

pub zip_long : {A B : Type 0} (R : A → B → Type 0) (xs : List A) (ys : List B) → AllZip R xs ys → length xs ≡ length ys
zip_long R [] [] all = refl
zip_long R [] (y ∷ ys) all = absurd all
zip_long R (x ∷ xs) [] all = absurd all
zip_long R (x ∷ xs) (y ∷ ys) all = ap suc (zip_long R xs ys all.1)

-- the first one beside an element that is there
first_of_kept : {B C : Type 0} (R : B → C → Type 0) (first : Option B) (rest : List B) (zs : List C) (y : B) → first ≡ Some y → AllZip R (option_to_list first ++ rest) zs → (z : C) × R y z
first_of_kept R None rest zs y is all = absurd (cc is)
first_of_kept R (Some x) rest [] y is all = absurd all
first_of_kept R (Some x) rest (z ∷ zs) y is all = (z, subst (λ w. R w z) (some_is x y is) all.0)

-- what comes after an element that may be there is in step with something
rest_of_kept : {B C : Type 0} (R : B → C → Type 0) (first : Option B) (rest : List B) (zs : List C) → AllZip R (option_to_list first ++ rest) zs → (ws : List C) × AllZip R rest ws
rest_of_kept R None rest zs all = (zs, all)
rest_of_kept R (Some x) rest [] all = absurd all
rest_of_kept R (Some x) rest (z ∷ zs) all = (zs, all.1)

-- what stands beside the element that is kept of one at a place
pub zip_kept : {A B C : Type 0} (R : B → C → Type 0) (f : A → Option B) (xs : List A) (zs : List C) (i : ℕ) (x : A) (y : B) → AllZip R (flat_map (λ x. option_to_list (f x)) xs) zs → slice_get xs i ≡ Some x → f x ≡ Some y → (z : C) × R y z
zip_kept R f [] zs i x y all is kept = absurd (cc is)
zip_kept {A} {B} R f (w ∷ xs) zs zero x y all is kept =
    first_of_kept R (f w) (flat_map (λ (x : A). option_to_list (f x)) xs) zs y (ap f (some_is w x is) ∙ kept) all
zip_kept {A} R f (w ∷ xs) zs (suc i) x y all is kept =
    let rest = rest_of_kept R (f w) (flat_map (λ (x : A). option_to_list (f x)) xs) zs all in
    zip_kept R f xs rest.0 i x y rest.1 is kept

pub get_last : {A : Type 0} (xs : List A) (x : A) → slice_get (xs ++ x ∷ []) (length xs) ≡ Some x
get_last [] x = refl
get_last (y ∷ xs) x = get_last xs x

-- an element stands at each place below the length
pub get_within : {A : Type 0} (xs : List A) (i : ℕ) → i < length xs → (x : A) × (slice_get xs i ≡ Some x)
get_within [] i below = absurd (omega arith)
get_within (x ∷ xs) zero below = (x, refl)
get_within (x ∷ xs) (suc i) below = get_within xs i (omega arith)

-- two lists are in step where they are so at each place
pub zip_by_places : {A : Type 0} (R : A → A → Type 0) (xs ys : List A) → length ys ≡ length xs → ((i : ℕ) (d : A) → i < length xs → R (slice_index_or xs i d) (slice_index_or ys i d)) → AllZip R xs ys
zip_by_places R [] [] long each = tt
zip_by_places R [] (y ∷ ys) long each = absurd (omega (arith, long))
zip_by_places R (x ∷ xs) [] long each = absurd (omega (arith, long))
zip_by_places R (x ∷ xs) (y ∷ ys) long each = (each 0 x (omega arith), zip_by_places R xs ys (omega (arith, long)) (λ i d below. each (suc i) d (omega (arith, below))))
