-- Words that are options, from the left.
use Rattle.std.proofs.Common.{◌≡◌, ◌<◌, ◌≤◌, ◌-◌, ◌||◌, ◌==◌, ℕ, Bool, false, zero, suc, refl, sym, ap, arith, List, [], ◌∷◌, map, length, take, drop, slice_index_or, None}
use Rattle.std.specs.List.{list_any}
use Rattle.std.specs.Str.{bytes_eq}
use Rattle.std.specs.Borrow.{Bor}
use Rattle.command_line.specs.steps.Words.{are_options_in, has_option_in, value_in}

pub take_all : {A : Type 0} (xs : List A) (n : ℕ) → length xs ≤ n → take n xs ≡ xs
take_all [] zero le = refl
take_all [] (suc n) le = refl
take_all (x ∷ xs) zero le = absurd (omega (arith, le))
take_all (x ∷ xs) (suc n) le = ap (λ ys. x ∷ ys) (take_all xs n (omega (arith, le)))

-- two words, and the others
pub two_first : {A : Type 0} (f : A → List ℕ) (xs : List A) (a b : A) (option value : List ℕ) → 2 ≤ length xs → a ≡ slice_index_or xs 0 a → b ≡ slice_index_or xs 1 b
    → option ≡ f a → value ≡ f b → map f xs ≡ option ∷ value ∷ map f (take (length xs - 2) (drop 2 xs))
two_first f [] a b o v l p q r s = absurd (omega (arith, l))
two_first f (x ∷ []) a b o v l p q r s = absurd (omega (arith, l))
two_first f (x ∷ y ∷ zs) a b o v l p q r s =
    let all : take (length (x ∷ y ∷ zs) - 2) zs ≡ zs = take_all zs _ (omega arith) in cc

pub none_in_less : {A : Type 0} (f : A → List ℕ) (name : List ℕ) (xs : List A) → length xs < 2 → has_option_in name (map f xs) ≡ false
none_in_less f name [] l = refl
none_in_less f name (x ∷ []) l = refl
none_in_less f name (x ∷ y ∷ zs) l = absurd (omega (arith, l))

pub any_map : {A : Type 0} (f : A → List ℕ) (p : List ℕ → Bool) (xs : List A) → list_any (λ x. p (f x)) xs ≡ list_any p (map f xs)
any_map f p [] = refl
any_map f p (x ∷ xs) = ap (λ b. p (f x) || b) (any_map f p xs)

pub all_in_less : {A : Type 0} (f : A → List ℕ) (names : List (List ℕ)) (xs : List A) → length xs < 2 → (length xs == 0) ≡ are_options_in names (map f xs)
all_in_less f names [] l = refl
all_in_less f names (x ∷ []) l = refl
all_in_less f names (x ∷ y ∷ zs) l = absurd (omega (arith, l))

-- a name among names that are lent
pub among_lent : (option : List ℕ) (names : List (Bor (List ℕ))) → list_any (λ name. bytes_eq name option) (map (λ name. name.now) names) ≡ list_any (λ name. bytes_eq name.now option) names
among_lent option names = sym (any_map (λ name. name.now) (λ name. bytes_eq name option) names)

pub no_value_in_less : {A : Type 0} (f : A → List ℕ) (name : List ℕ) (xs : List A) → length xs < 2 → value_in name (map f xs) ≡ None
no_value_in_less f name [] l = refl
no_value_in_less f name (x ∷ []) l = refl
no_value_in_less f name (x ∷ y ∷ zs) l = absurd (omega (arith, l))
