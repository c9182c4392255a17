-- Lists in order, and tests that agree on a list.
use Rattle.std.proofs.Common.{◌≡◌, ℕ, ◌<◌, suc, Bool, true, false, cond, List, [], ◌∷◌, ◌++◌, length, get_or, map, take, append_assoc, append-nil, ◌+◌, refl, sym, ap, ◌∙◌, arith}
use Rattle.std.specs.Prelude.{All, AllPairs, ◌&&◌}
use Rattle.std.specs.List.{filter, flat_map}
use Rattle.std.proofs.lemmas.List.Elements.{All-nil, All-head, All-tail, All-append, All-map, filter_more}
use Rattle.std.proofs.lemmas.List.Kept.{AllPairs-cons}

module _ {X : Type 0} (R : X → X → Type 0) where
  pub pairs_nil : AllPairs R []
  pairs_nil i j d order within = absurd (omega arith)

  pub pairs_tail : (x : X) (xs : List X) → AllPairs R (x ∷ xs) → AllPairs R xs
  pairs_tail x xs pairs i j d order within = pairs (suc i) (suc j) d (omega arith) (omega arith)

  pub pairs_head : (x : X) (xs : List X) → AllPairs R (x ∷ xs) → All (R x) xs
  pairs_head x xs pairs k d within = pairs 0 (suc k) d (omega arith) (omega arith)

  pub pairs_append : (xs ys : List X) → AllPairs R xs → AllPairs R ys → All (λ x. All (R x) ys) xs → AllPairs R (xs ++ ys)
  pairs_append [] ys first second across = second
  pairs_append (x ∷ xs) ys first second across =
      AllPairs-cons R x (xs ++ ys)
      (All-append (R x) xs ys (pairs_head x xs first) (All-head (λ x. All (R x) ys) x xs across))
      (pairs_append xs ys (pairs_tail x xs first) second (All-tail (λ x. All (R x) ys) x xs across))

pub pairs_map : {X Y : Type 0} (R : Y → Y → Type 0) (f : X → Y) (xs : List X) → AllPairs (λ a b. R (f a) (f b)) xs → AllPairs R (map f xs)
pairs_map R f [] pairs = pairs_nil R
pairs_map R f (x ∷ xs) pairs =
    AllPairs-cons R (f x) (map f xs) (All-map (R (f x)) f xs (pairs_head (λ a b. R (f a) (f b)) x xs pairs)) (pairs_map R f xs (pairs_tail (λ a b. R (f a) (f b)) x xs pairs))

-- a stronger order of a list's elements
pub pairs_weaker : {X : Type 0} (R S : X → X → Type 0) → ((a b : X) → R a b → S a b) → (xs : List X) → AllPairs R xs → AllPairs S xs
pairs_weaker R S weaker xs pairs i j d order within = weaker _ _ (pairs i j d order within)

module _ {X : Type 0} (p q : X → Bool) where
  pub filter_alike : (xs : List X) → All (λ x. p x ≡ q x) xs → filter p xs ≡ filter q xs
  filter_alike [] alike = refl
  filter_alike (x ∷ xs) alike =
      ap (λ b. cond b (x ∷ filter p xs) (filter p xs)) (All-head (λ x. p x ≡ q x) x xs alike)
      ∙ ap (λ ys. cond (q x) (x ∷ ys) ys) (filter_alike xs (All-tail (λ x. p x ≡ q x) x xs alike))

  kept_twice : (x : X) (xs : List X) (b : Bool) → filter p (cond b (x ∷ xs) xs) ≡ cond (b && p x) (x ∷ filter p xs) (filter p xs)
  kept_twice x xs true = refl
  kept_twice x xs false = refl

  pub filter_twice : (xs : List X) → filter p (filter q xs) ≡ filter (λ x. q x && p x) xs
  filter_twice [] = refl
  filter_twice (x ∷ xs) = kept_twice x (filter q xs) (q x) ∙ ap (λ ys. cond (q x && p x) (x ∷ ys) ys) (filter_twice xs)

pub filter_whole : {X : Type 0} (p : X → Bool) (xs : List X) → All (λ x. p x ≡ true) xs → filter p xs ≡ xs
filter_whole p [] passes = refl
filter_whole p (x ∷ xs) passes =
    ap (λ b. cond b (x ∷ filter p xs) (filter p xs)) (All-head (λ x. p x ≡ true) x xs passes)
    ∙ ap (λ ys. x ∷ ys) (filter_whole p xs (All-tail (λ x. p x ≡ true) x xs passes))

pub filter_none : {X : Type 0} (p : X → Bool) (xs : List X) → All (λ x. p x ≡ false) xs → filter p xs ≡ []
filter_none p [] fails = refl
filter_none p (x ∷ xs) fails =
    ap (λ b. cond b (x ∷ filter p xs) (filter p xs)) (All-head (λ x. p x ≡ false) x xs fails)
    ∙ filter_none p xs (All-tail (λ x. p x ≡ false) x xs fails)

-- a filter in a loop: one element more, which is kept or not
pub filter_step : {X : Type 0} (p : X → Bool) (xs : List X) (i : ℕ) (d : X) (b : Bool) (start before after : List X) → i < length xs → b ≡ p (get_or xs i d) → before ≡ start ++ filter p (take i xs) → after ≡ cond b (before ++ get_or xs i d ∷ []) before → after ≡ start ++ filter p (take (i + 1) xs)
filter_step p xs i d true start before after within told so more =
    let last : cond (p (get_or xs i d)) (get_or xs i d ∷ []) [] ≡ get_or xs i d ∷ [] = ap (λ b. cond b (get_or xs i d ∷ []) []) (sym told) in
    more ∙ ap (λ ys. ys ++ get_or xs i d ∷ []) so ∙ append_assoc start (filter p (take i xs)) (get_or xs i d ∷ [])
    ∙ ap (λ ys. start ++ ys) (sym (filter_more p xs i d within ∙ ap (λ ys. filter p (take i xs) ++ ys) last))
filter_step p xs i d false start before after within told so more =
    let last : cond (p (get_or xs i d)) (get_or xs i d ∷ []) [] ≡ [] = ap (λ b. cond b (get_or xs i d ∷ []) []) (sym told) in
    more ∙ so
    ∙ ap (λ ys. start ++ ys) (sym (filter_more p xs i d within ∙ ap (λ ys. filter p (take i xs) ++ ys) last ∙ append-nil (filter p (take i xs))))

-- what holds of all that each element gives
pub all_flat_map : {X Y : Type 0} (P : Y → Type 0) (f : X → List Y) (xs : List X) → All (λ x. All P (f x)) xs → All P (flat_map f xs)
all_flat_map P f [] each = All-nil P
all_flat_map P f (x ∷ xs) each = All-append P (f x) (flat_map f xs) (All-head (λ x. All P (f x)) x xs each) (all_flat_map P f xs (All-tail (λ x. All P (f x)) x xs each))
