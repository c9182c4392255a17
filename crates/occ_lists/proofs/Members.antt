-- Members of lists as tests see them: what some member of a list passes, by the lists that it is made of; and lists that have
-- the same members.
use Rattle.std.proofs.Common.{◌≡◌, Bool, true, false, cond, List, [], ◌∷◌, ◌++◌, length, map, refl, sym, ◌∙◌, ap, arith, inl, inr}
use Rattle.std.specs.Prelude.{◌&&◌, ◌||◌, not, Contains, IsPermutation, nat_lt}
use Rattle.std.specs.Cmp.{IsEquivalence}
use Rattle.std.specs.List.{list_any, list_all, filter, flat_map, dedup}
use Rattle.std.proofs.lemmas.Bool.{true≢false, lt-ltb, or_cases, or_left, or_right}
use Rattle.std.proofs.lemmas.List.Folds.{list_any-append, list_any_at, Any-from_list_any}
use Rattle.std.proofs.lemmas.List.Kept.{Contains-dedup, Contains-from_dedup}
use Rattle.std.proofs.lemmas.List.Sorted.{list_any-IsPermutation}
use Rattle.occ_lists.specs.declared.occ.Occ.{Occ}
use Rattle.occ_lists.specs.Joined.{pairs}
use Rattle.occ_lists.specs.OccLists.{SameMembers}

-- ---- what some member passes
or_middle : (a b c d : Bool) → ((a || b) || (c || d)) ≡ ((a || c) || (b || d))
or_middle true b c d = refl
or_middle false true true d = refl
or_middle false true false d = refl
or_middle false false c d = refl

or_swap : (a b : Bool) → (a || b) ≡ (b || a)
or_swap true true = refl
or_swap true false = refl
or_swap false true = refl
or_swap false false = refl

or_itself : (a : Bool) → (a || a) ≡ a
or_itself true = refl
or_itself false = refl

de_morgan : (a b : Bool) → (a && not b) ≡ not (not a || b)
de_morgan true b = refl
de_morgan false b = refl

-- two tests that agree at each element
pub any_alike : {X : Type 0} (p q : X → Bool) → ((x : X) → p x ≡ q x) → (xs : List X) → list_any p xs ≡ list_any q xs
any_alike p q alike [] = refl
any_alike p q alike (x ∷ xs) = ap (λ b. b || list_any p xs) (alike x) ∙ ap (λ b. q x || b) (any_alike p q alike xs)

-- a test that is passed where the other is
pub any_weaker : {X : Type 0} (p q : X → Bool) → ((x : X) → p x ≡ true → q x ≡ true) → (xs : List X) → list_any p xs ≡ true → list_any q xs ≡ true
any_weaker p q weaker [] passed = passed
any_weaker p q weaker (x ∷ xs) passed = elim (or_cases (p x) (list_any p xs) passed) [
  | inl here ↦ or_left (q x) (list_any q xs) (weaker x here)
  | inr later ↦ or_right (q x) (list_any q xs) (any_weaker p q weaker xs later)
]

-- a test that none passes
pub any_never : {X : Type 0} (xs : List X) → list_any (λ (x : X). false) xs ≡ false
any_never [] = refl
any_never (x ∷ xs) = any_never xs

-- one of two tests
pub any_or : {X : Type 0} (p q : X → Bool) (xs : List X) → list_any (λ x. p x || q x) xs ≡ (list_any p xs || list_any q xs)
any_or p q [] = refl
any_or p q (x ∷ xs) = ap (λ b. (p x || q x) || b) (any_or p q xs) ∙ or_middle (p x) (q x) (list_any p xs) (list_any q xs)

-- a condition that isn't on the element
pub any_and : {X : Type 0} (b : Bool) (p : X → Bool) (xs : List X) → list_any (λ x. b && p x) xs ≡ (b && list_any p xs)
any_and true p xs = refl
any_and false p xs = any_never xs

-- some x with some y, and some y with some x
pub any_any : {X Y : Type 0} (r : X → Y → Bool) (xs : List X) (ys : List Y) → list_any (λ x. list_any (r x) ys) xs ≡ list_any (λ y. list_any (λ x. r x y) xs) ys
any_any r [] ys = sym (any_never ys)
any_any r (x ∷ xs) ys = ap (λ b. list_any (r x) ys || b) (any_any r xs ys) ∙ sym (any_or (r x) (λ y. list_any (λ x. r x y) xs) ys)

pub any_map : {X Y : Type 0} (p : Y → Bool) (f : X → Y) (xs : List X) → list_any p (map f xs) ≡ list_any (λ x. p (f x)) xs
any_map p f [] = refl
any_map p f (x ∷ xs) = ap (λ b. p (f x) || b) (any_map p f xs)

any_kept : {X : Type 0} (p : X → Bool) (b : Bool) (x : X) (xs : List X) → list_any p (cond b (x ∷ xs) xs) ≡ ((b && p x) || list_any p xs)
any_kept p true x xs = refl
any_kept p false x xs = refl

pub any_filter : {X : Type 0} (p q : X → Bool) (xs : List X) → list_any p (filter q xs) ≡ list_any (λ x. q x && p x) xs
any_filter p q [] = refl
any_filter p q (x ∷ xs) = any_kept p (q x) x (filter q xs) ∙ ap (λ b. (q x && p x) || b) (any_filter p q xs)

pub any_flat_map : {X Y : Type 0} (p : Y → Bool) (f : X → List Y) (xs : List X) → list_any p (flat_map f xs) ≡ list_any (λ x. list_any p (f x)) xs
any_flat_map p f [] = refl
any_flat_map p f (x ∷ xs) = list_any-append p (f x) (flat_map f xs) ∙ ap (λ b. list_any p (f x) || b) (any_flat_map p f xs)

-- what is made of some pair that goes together
pub any_pairs : (p : Occ → Bool) (goes : Occ → Occ → Bool) (make : Occ → Occ → Occ) (xs ys : List Occ) → list_any p (pairs goes make xs ys) ≡ list_any (λ x. list_any (λ y. goes x y && p (make x y)) ys) xs
any_pairs p goes make xs ys =
    any_flat_map p (λ x. map (make x) (filter (goes x) ys)) xs
    ∙ any_alike (λ x. list_any p (map (make x) (filter (goes x) ys))) (λ x. list_any (λ y. goes x y && p (make x y)) ys)
    (λ x. any_map p (make x) (filter (goes x) ys) ∙ any_filter (λ y. p (make x y)) (goes x) ys) xs

-- whether there is a member at all
pub any_at_all : {X : Type 0} (xs : List X) → list_any (λ (x : X). true) xs ≡ nat_lt 0 (length xs)
any_at_all [] = refl
any_at_all (x ∷ xs) = sym (lt-ltb 0 (length (x ∷ xs)) (omega arith))

-- all pass a test where none fails it
pub all_by_any : {X : Type 0} (p : X → Bool) (xs : List X) → list_all p xs ≡ not (list_any (λ x. not (p x)) xs)
all_by_any p [] = refl
all_by_any p (x ∷ xs) = ap (λ b. p x && b) (all_by_any p xs) ∙ de_morgan (p x) (list_any (λ x. not (p x)) xs)

-- ---- lists with the same members
pub same_refl : {X : Type 0} (xs : List X) → SameMembers xs xs
same_refl xs = λ p. refl

pub same_is : {X : Type 0} (xs ys : List X) → xs ≡ ys → SameMembers xs ys
same_is xs ys is = λ p. ap (list_any p) is

pub same_sym : {X : Type 0} (xs ys : List X) → SameMembers xs ys → SameMembers ys xs
same_sym xs ys same = λ p. sym (same p)

pub same_trans : {X : Type 0} (xs ys zs : List X) → SameMembers xs ys → SameMembers ys zs → SameMembers xs zs
same_trans xs ys zs first second = λ p. first p ∙ second p

pub same_append : {X : Type 0} (xs ys us vs : List X) → SameMembers xs ys → SameMembers us vs → SameMembers (xs ++ us) (ys ++ vs)
same_append xs ys us vs first second = λ p.
    list_any-append p xs us
    ∙ ap (λ b. b || list_any p us) (first p)
    ∙ ap (λ b. list_any p ys || b) (second p)
    ∙ sym (list_any-append p ys vs)

pub same_swapped : {X : Type 0} (xs ys : List X) → SameMembers (xs ++ ys) (ys ++ xs)
same_swapped xs ys = λ p. list_any-append p xs ys ∙ or_swap (list_any p xs) (list_any p ys) ∙ sym (list_any-append p ys xs)

-- what stands in a list already adds no member
pub same_twice : {X : Type 0} (xs ys : List X) → SameMembers xs ys → SameMembers (xs ++ ys) xs
same_twice xs ys same = λ p. list_any-append p xs ys ∙ ap (λ b. list_any p xs || b) (sym (same p)) ∙ or_itself (list_any p xs)

pub same_map : {X Y : Type 0} (f : X → Y) (xs ys : List X) → SameMembers xs ys → SameMembers (map f xs) (map f ys)
same_map f xs ys same = λ p. any_map p f xs ∙ same (λ x. p (f x)) ∙ sym (any_map p f ys)

pub same_filter : {X : Type 0} (q : X → Bool) (xs ys : List X) → SameMembers xs ys → SameMembers (filter q xs) (filter q ys)
same_filter q xs ys same = λ p. any_filter p q xs ∙ same (λ x. q x && p x) ∙ sym (any_filter p q ys)

pub same_flat_map : {X Y : Type 0} (f g : X → List Y) → ((x : X) → SameMembers (f x) (g x)) → (xs ys : List X) → SameMembers xs ys → SameMembers (flat_map f xs) (flat_map g ys)
same_flat_map f g alike xs ys same = λ p.
    any_flat_map p f xs
    ∙ same (λ x. list_any p (f x))
    ∙ any_alike (λ x. list_any p (f x)) (λ x. list_any p (g x)) (λ x. alike x p) ys
    ∙ sym (any_flat_map p g ys)

pub same_pairs : (goes : Occ → Occ → Bool) (make : Occ → Occ → Occ) (xs xs' ys ys' : List Occ) → SameMembers xs xs' → SameMembers ys ys' → SameMembers (pairs goes make xs ys) (pairs goes make xs' ys')
same_pairs goes make xs xs' ys ys' first second = λ p.
    any_pairs p goes make xs ys
    ∙ first (λ x. list_any (λ y. goes x y && p (make x y)) ys)
    ∙ any_alike (λ x. list_any (λ y. goes x y && p (make x y)) ys) (λ x. list_any (λ y. goes x y && p (make x y)) ys') (λ x. second (λ y. goes x y && p (make x y))) xs'
    ∙ sym (any_pairs p goes make xs' ys')

-- in another order
pub same_permutation : {X : Type 0} (xs ys : List X) → IsPermutation xs ys → SameMembers xs ys
same_permutation xs ys moved = λ p. list_any-IsPermutation p xs ys moved

-- each element of the one is an element of the other
any_within : {X : Type 0} (p : X → Bool) (xs ys : List X) → ((x : X) → Contains xs x → Contains ys x) → list_any p xs ≡ true → list_any p ys ≡ true
any_within p xs ys within passed =
    let found = Any-from_list_any p xs passed in
    let has = within found.1 (found.0, found.2, found.3) in
    list_any_at p ys has.0 found.1 has.1 (ap p has.2 ∙ found.4)

both_or_none : (a b : Bool) → (a ≡ true → b ≡ true) → (b ≡ true → a ≡ true) → a ≡ b
both_or_none true b one other = sym (one refl)
both_or_none false true one other = other refl
both_or_none false false one other = refl

pub same_from_contains : {X : Type 0} (xs ys : List X) → ((x : X) → Contains xs x → Contains ys x) → ((x : X) → Contains ys x → Contains xs x) → SameMembers xs ys
same_from_contains xs ys one other = λ p. both_or_none (list_any p xs) (list_any p ys) (any_within p xs ys one) (any_within p ys xs other)

-- each once, where the test is equality
pub same_dedup : {X : Type 0} (E : X → X → Bool) → IsEquivalence E → ((x y : X) → E x y ≡ true → x ≡ y) → (xs : List X) → SameMembers (dedup E xs) xs
same_dedup E laws equal xs = same_from_contains (dedup E xs) xs (Contains-from_dedup E xs) (Contains-dedup laws equal xs)

-- the one is empty where the other is
pub same_length : {X : Type 0} (xs ys : List X) → SameMembers xs ys → nat_lt 0 (length xs) ≡ nat_lt 0 (length ys)
same_length xs ys same = sym (any_at_all xs) ∙ same (λ x. true) ∙ any_at_all ys

pub same_empty : {X : Type 0} (xs ys : List X) → SameMembers xs ys → xs ≡ [] → ys ≡ []
same_empty xs [] same is = refl
same_empty xs (y ∷ ys) same is = absurd (true≢false (sym (same (λ x. true)) ∙ ap (list_any (λ x. true)) is))

-- a test that all of the one pass all of the other pass
pub same_all : {X : Type 0} (p : X → Bool) (xs ys : List X) → SameMembers xs ys → list_all p xs ≡ list_all p ys
same_all p xs ys same = all_by_any p xs ∙ ap not (same (λ x. not (p x))) ∙ sym (all_by_any p ys)
