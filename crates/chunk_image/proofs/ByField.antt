-- Lists of numbered parts are told by their parts.
use Rattle.std.proofs.Common.{◌≡◌, ℕ, ◌+◌, ◌<◌, List, [], ◌∷◌, ◌++◌, refl, sym, ap, map, arith, length}
use Rattle.doc_types.proofs.FieldParts.{parts}

-- all numbers lie above n
abbrev pub Above : {X : Type 0} → ℕ → List (ℕ × X) → Type 0
Above n [] = Unit {0}
Above n (x ∷ xs) = (n < x.0) × Above n xs

above_joined : {X : Type 0} (n m : ℕ) (xs : List X) (rest : List (ℕ × X)) → n < m → Above n rest → Above n (map (λ x. (m, x)) xs ++ rest)
above_joined n m [] rest low above = above
above_joined n m (x ∷ xs) rest low above = (low, above_joined n m xs rest low above)

above_parts : {X Y : Type 0} (n m : ℕ) (items : Y → List X) (ys : List Y) → n < m → Above n (parts m items ys)
above_parts n m items [] low = tt
above_parts n m items (y ∷ ys) low = above_joined n m (items y) (parts (m + 1) items ys) low (above_parts n (m + 1) items ys (omega (arith, low)))

first_above : {X : Type 0} (n : ℕ) (y : X) (ys us : List (ℕ × X)) → Above n us → us ≡ (n, y) ∷ ys → ⊥
first_above n y ys [] above e = absurd cc
first_above n y ys (a ∷ us) above e = let same : a.0 ≡ n = cc in absurd (omega (arith, same, above.0))

pub heads : {X : Type 0} (x y : X) (xs ys : List X) → x ∷ xs ≡ y ∷ ys → x ≡ y
heads x y xs ys e = cc

pub tails : {X : Type 0} (x y : X) (xs ys : List X) → x ∷ xs ≡ y ∷ ys → xs ≡ ys
tails x y xs ys e = cc

split : {X : Type 0} (n : ℕ) (xs ys : List X) (us bs : List (ℕ × X)) → Above n us → Above n bs → map (λ x. (n, x)) xs ++ us ≡ map (λ x. (n, x)) ys ++ bs → (xs ≡ ys) × (us ≡ bs)
split n [] [] us bs a b e = (refl, e)
split n [] (y ∷ ys) us bs a b e = absurd (first_above n y (map (λ x. (n, x)) ys ++ bs) us a e)
split n (x ∷ xs) [] us bs a b e = absurd (first_above n x (map (λ x. (n, x)) xs ++ us) bs b (sym e))
split n (x ∷ xs) (y ∷ ys) us bs a b e =
    let rest : map (λ x. (n, x)) xs ++ us ≡ map (λ x. (n, x)) ys ++ bs = cc in
    let its = split n xs ys us bs a b rest in
    let here : x ≡ y = ap (λ m. m.1) (heads _ _ _ _ e) in
    (let tail : xs ≡ ys = its.0 in cc, its.1)

-- the parts of each are told
pub parts_same : {X Y : Type 0} (n : ℕ) (items : Y → List X) (ys zs : List Y) → length ys ≡ length zs → parts n items ys ≡ parts n items zs → map items ys ≡ map items zs
parts_same n items [] [] l e = refl
parts_same n items [] (z ∷ zs) l e = absurd (omega (arith, l))
parts_same n items (y ∷ ys) [] l e = absurd (omega (arith, l))
parts_same n items (y ∷ ys) (z ∷ zs) l e =
    let its = split n (items y) (items z) (parts (n + 1) items ys) (parts (n + 1) items zs) (above_parts n (n + 1) items ys (omega arith)) (above_parts n (n + 1) items zs (omega arith)) e in
    let rest : map items ys ≡ map items zs = parts_same (n + 1) items ys zs (omega (arith, l)) its.1 in
    let here : items y ≡ items z = its.0 in
    cc
