-- The parts of an AND in order, keywords by their numbers, and the least share.
use Rattle.std.proofs.Common.{arith, ◌≡◌, ◌<◌, ◌+◌, ◌*◌, ◌^◌, ◌/◌, ◌%◌, min, add-one, refl, sym, ap, ◌∙◌, ℕ, Bool, true, false, List, [], ◌∷◌, ◌++◌, take, drop}
use Rattle.std.specs.Prelude.{◌&&◌}
use Rattle.std.specs.List.{list_all, range_with_len}
use Rattle.std.proofs.Math.Nat.{mul_assoc, mul_comm, pow-suc}
use Rattle.std.proofs.lemmas.List.{take-append-drop}
use Rattle.std.proofs.lemmas.List.Folds.{list_all-append}
use Rattle.row_plans.proofs.LivingRows.{range_more}

swapped : (a b c : Bool) → (a && (b && c)) ≡ (b && (a && c))
swapped true b c = refl
swapped false true c = refl
swapped false false c = refl

-- one more, wherever it is put
pub all_put : {X : Type 0} (p : X → Bool) (xs : List X) (i : ℕ) (x : X) → list_all p (take i xs ++ x ∷ drop i xs) ≡ (p x && list_all p xs)
all_put p xs i x =
    list_all-append p (take i xs) (x ∷ drop i xs) ∙ swapped (list_all p (take i xs)) (p x) (list_all p (drop i xs))
    ∙ ap (λ b. p x && b) (sym (list_all-append p (take i xs) (drop i xs)) ∙ ap (list_all p) (take-append-drop i xs))

-- one number more
pub all_numbers : (has : ℕ → Bool) (first n next : ℕ) (t : Bool) → next ≡ first + n → t ≡ list_all has (range_with_len first n) → (has next && t) ≡ list_all has (range_with_len first (n + 1))
all_numbers has first n next t at is =
    ap (λ b. has next && b) is ∙ ap (λ (i : ℕ). has i && list_all has (range_with_len first n)) at
    ∙ both (has (first + n)) (list_all has (range_with_len first n))
    ∙ sym (ap (list_all has) (range_more first n) ∙ list_all-append has (range_with_len first n) ((first + n) ∷ []))
  where
    both : (a b : Bool) → (a && b) ≡ (b && (a && true))
    both true true = refl
    both true false = refl
    both false true = refl
    both false false = refl

-- ---- tenths that are rounded up

pub tenth : (m least part : ℕ) → part ≡ least / 10 + min 1 (least % 10) → m < part → m * 10 < least
tenth m least part is l = omega (arith, is, l)

pub ten_times : (m n : ℕ) → m * 10 * (10 ^ n) ≡ m * (10 ^ (n + 1))
ten_times m n =
    let power : 10 ^ (n + 1) ≡ 10 ^ n * 10 = ap {B = ℕ} (λ k. 10 ^ k) (add-one n) ∙ pow-suc 10 n in
    mul_assoc m 10 (10 ^ n) ∙ ap (λ p. m * p) (mul_comm 10 (10 ^ n) ∙ sym power)
