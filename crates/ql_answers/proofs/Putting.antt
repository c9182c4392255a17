-- A list that is mapped in place, one element after the other.
use Rattle.std.proofs.Common.{◌≡◌, ℕ, zero, suc, ◌+◌, ◌<◌, ◌≤◌, List, [], ◌∷◌, ◌++◌, length, get_or, set, take, drop, map, refl, ap, ◌∙◌, add-one, arith}

abbrev pub amid : {X : Type 0} → (X → X) → ℕ → List X → List X
amid f i xs = map f (take i xs) ++ drop i xs

amid_step : {X : Type 0} (f : X → X) (xs : List X) (i : ℕ) (d : X) → i < length xs → set (amid f i xs) i (f (get_or (amid f i xs) i d)) ≡ amid f (suc i) xs
amid_step f [] i d low = absurd (omega (arith, low))
amid_step f (x ∷ xs) zero d low = refl
amid_step f (x ∷ xs) (suc i) d low = ap (λ ys. f x ∷ ys) (amid_step f xs i d (omega (arith, low)))

amid_length : {X : Type 0} (f : X → X) (xs : List X) (i : ℕ) → length (amid f i xs) ≡ length xs
amid_length f [] zero = refl
amid_length f [] (suc i) = refl
amid_length f (x ∷ xs) zero = refl
amid_length f (x ∷ xs) (suc i) = ap suc (amid_length f xs i)

pub amid_more : {X : Type 0} (f : X → X) (old now : List X) (i : ℕ) (d y : X) → i < length now → now ≡ amid f i old → y ≡ f (get_or now i d) → set now i y ≡ amid f (i + 1) old
amid_more f old now i d y low is one =
    let inside : i < length old = omega (arith, low, ap length is, amid_length f old i) in
    ap (set now i) one ∙ ap (λ xs. set xs i (f (get_or xs i d))) is ∙ rw add-one (amid_step f old i d inside)

pub amid_last : {X : Type 0} (f : X → X) (xs : List X) (i : ℕ) → length xs ≤ i → amid f i xs ≡ map f xs
amid_last f [] zero past = refl
amid_last f [] (suc i) past = refl
amid_last f (x ∷ xs) zero past = absurd (omega (arith, past))
amid_last f (x ∷ xs) (suc i) past = ap (λ ys. f x ∷ ys) (amid_last f xs i (omega (arith, past)))
