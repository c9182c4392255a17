-- Distinct names.
use Rattle.std.proofs.Common.{◌≡◌, ◌≢◌, ℕ, zero, suc, false, List, [], ◌∷◌, ◌++◌, sym, arith}
use Rattle.std.specs.Prelude.{All, AllPairs}
use Rattle.std.proofs.lemmas.List.Elements.{All-append}
use Rattle.doc_types.specs.Schemas.{AreDistinct}
use Rattle.conf_text.specs.Faults.{is_among}
use Rattle.conf_text.proofs.Among.{among_no}

pub all_head : {X : Type 0} (P : X → Type 0) (x : X) (xs : List X) → All P (x ∷ xs) → P x
all_head P x xs all = all 0 x (omega arith)

pub all_tail : {X : Type 0} (P : X → Type 0) (x : X) (xs : List X) → All P (x ∷ xs) → All P xs
all_tail P x xs all k d below = all (suc k) d (omega arith)

pub all_cons : {X : Type 0} (P : X → Type 0) (x : X) (xs : List X) → P x → All P xs → All P (x ∷ xs)
all_cons P x xs first all zero d below = first
all_cons P x xs first all (suc k) d below = all k d (omega arith)

pairs_head : {X : Type 0} (R : X → X → Type 0) (x : X) (xs : List X) → AllPairs R (x ∷ xs) → All (R x) xs
pairs_head R x xs pairs k d below = pairs 0 (suc k) d (omega arith) (omega arith)

pairs_tail : {X : Type 0} (R : X → X → Type 0) (x : X) (xs : List X) → AllPairs R (x ∷ xs) → AllPairs R xs
pairs_tail R x xs pairs i j d order below = pairs (suc i) (suc j) d (omega arith) (omega arith)

pairs_cons : {X : Type 0} (R : X → X → Type 0) (x : X) (xs : List X) → All (R x) xs → AllPairs R xs → AllPairs R (x ∷ xs)
pairs_cons R x xs first pairs i zero d order below = absurd (omega arith)
pairs_cons R x xs first pairs zero (suc j) d order below = first j d (omega arith)
pairs_cons R x xs first pairs (suc i) (suc j) d order below = pairs i j d (omega arith) (omega arith)

-- no name of the one list is one of the other
abbrev pub AreApart : List (List ℕ) → List (List ℕ) → Type 0
AreApart names others = All (λ name. All (λ other. name ≢ other) others) names

-- distinct names, and distinct names apart from them
pub distinct_both : (names others : List (List ℕ)) → AreDistinct names → AreDistinct others → AreApart names others → AreDistinct (names ++ others)
distinct_both [] others first second apart = second
distinct_both (name ∷ names) others first second apart =
    pairs_cons (λ a b. a ≢ b) name (names ++ others)
    (All-append (λ other. name ≢ other) names others (pairs_head (λ a b. a ≢ b) name names first) (all_head (λ n. All (λ other. n ≢ other) others) name names apart))
    (distinct_both names others (pairs_tail (λ a b. a ≢ b) name names first) second (all_tail (λ n. All (λ other. n ≢ other) others) name names apart))

-- a name that isn't among others differs from each
pub all_differ : (name : List ℕ) (names : List (List ℕ)) → is_among name names ≡ false → All (λ other. name ≢ other) names
all_differ name names none k d below same = among_no name names none k d below (sym same)
