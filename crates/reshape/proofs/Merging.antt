-- Ids in order, gone over from one on.
use Rattle.std.proofs.Common.{◌≡◌, ℕ, suc, ◌<◌, ◌≤◌, List, [], ◌∷◌, Bool, true, false, ◌==◌, ◌||◌, nat_lt, cond, All, refl, sym, ap, ◌∙◌, arith}
use Rattle.std.specs.List.{list_any}
use Rattle.std.specs.List.Sorted.{IsNonDecreasingBy}
use Rattle.std.proofs.lemmas.Bool.Decides.{nat_tests}
use Rattle.std.proofs.lemmas.List.Folds.{list_any_none}
use Rattle.doc_types.specs.Chunks.{rows_from}
use Rattle.reshape.specs.steps.Moving.{begins}

abbrev Up : List ℕ → Type 0
Up xs = IsNonDecreasingBy (λ x. x) xs

rest : (x : ℕ) (xs : List ℕ) → Up (x ∷ xs) → Up xs
rest x xs up i j d l h = up (suc i) (suc j) d (omega (arith, l)) (omega (arith, h))

above : (x : ℕ) (xs : List ℕ) → Up (x ∷ xs) → All (λ y. x ≤ y) xs
above x xs up k d h = up 0 (suc k) d (omega arith) (omega (arith, h))

below : (a b : ℕ) → nat_lt a b ≡ true → a < b
below a b h = grind (arith, nat_tests)

not_below : (a b : ℕ) → nat_lt a b ≡ false → b ≤ a
not_below a b h = grind (arith, nat_tests)

is_below : (a b : ℕ) → a < b → nat_lt a b ≡ true
is_below a b h = grind (arith, nat_tests)

differ : (a b : ℕ) → a < b → (a == b) ≡ false
differ a b h = grind (arith, nat_tests)

differ' : (a b : ℕ) → b < a → (a == b) ≡ false
differ' a b h = grind (arith, nat_tests)

other : (a b : ℕ) → (a == b) ≡ false → b ≤ a → b < a
other a b e h = grind (arith, nat_tests)

-- from one on, and then from a later one on
pub from_later : (first later : ℕ) (xs : List ℕ) → first ≤ later → rows_from later (rows_from first xs) ≡ rows_from later xs
from_later first later [] le = refl
from_later first later (x ∷ xs) le =
    elim (nat_lt x first) as (λ (b : Bool). nat_lt x first ≡ b → rows_from later (cond b (rows_from first xs) (x ∷ xs)) ≡ rows_from later (x ∷ xs)) [
      | true ↦ λ e. (
          let low : nat_lt x later ≡ true = is_below x later (let lt = below x first e in omega (arith, lt, le)) in
          from_later first later xs le ∙ sym (ap (λ (b : Bool). cond b (rows_from later xs) (x ∷ xs)) low))
      | false ↦ λ e. refl
    ] refl

-- an id is among those in order where it is the first one from it on
pub begins_is : (id : ℕ) (xs : List ℕ) → Up xs → begins (rows_from id xs) id ≡ list_any (λ x. x == id) xs
begins_is id [] up = refl
begins_is id (x ∷ xs) up =
    elim (nat_lt x id) as (λ (b : Bool). nat_lt x id ≡ b → begins (cond b (rows_from id xs) (x ∷ xs)) id ≡ ((x == id) || list_any (λ x. x == id) xs)) [
      | true ↦ λ e. begins_is id xs (rest x xs up) ∙ sym (ap (λ (b : Bool). b || list_any (λ x. x == id) xs) (differ x id (below x id e)))
      | false ↦ λ e. (
          let le = not_below x id e in
          elim (x == id) as (λ (c : Bool). (x == id) ≡ c → c ≡ (c || list_any (λ x. x == id) xs)) [
            | true ↦ λ h. refl
            | false ↦ λ h. (
                let lt = other x id h le in
                sym (list_any_none (λ x. x == id) xs (λ k d l. differ' _ id (let up' = above x xs up k d l in omega (arith, up', lt)))))
          ] refl)
    ] refl
